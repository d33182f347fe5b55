-- Messages on their way.
use Rattle.std.specs.Prelude.{ℕ, List}
use Rattle.abt_cell.specs.Message.{Reply}
use Rattle.abt_cell.specs.declared.message.Rm.{Rm}
use Rattle.abt_history.specs.declared.deed.Deed.{Deed}

-- what contracts see of a message on its way to a port, and of an answer on its way to a source: with what was seen when it was sent
pub record LetterView : Type 0 where
  pub port : ℕ
  pub message : Rm
  pub front : List Deed

pub record NoticeView : Type 0 where
  pub conn : ℕ
  pub answer : Reply
  pub front : List Deed
