use Rattle.std.proofs.lemmas.Str.{IsUtf8-from_ascii}
use Rattle.abt_text.proofs.code.HexCodeDisplay.fmt.Goals as goal

pub unreachable-requires : goal.unreachable-requires
unreachable-requires g c = c.in-Err.ensures.cases.0 (IsUtf8-from_ascii _ c.digits-digits.ensures.ascii)
