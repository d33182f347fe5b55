use Rattle.std.proofs.lemmas.Str.{IsUtf8-from_ascii}
use Rattle.abt_text.proofs.code.HexCode.push_to.Goals as goal

pub unreachable-requires : goal.unreachable-requires
unreachable-requires c = c.in-Err.ensures.cases.0 (IsUtf8-from_ascii _ c.digits-digits.ensures.ascii)
