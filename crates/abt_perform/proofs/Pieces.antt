-- Pieces of a text that go out one after the other.
use Rattle.std.proofs.Common.{ℕ, ◌+◌, ◌<◌, ◌≤◌, List, ◌++◌, Option, length, take, sym, subst, arith, length-append}
use Rattle.std.proofs.KnownBytes.{Appends-trans}
use Rattle.std.proofs.lemmas.List.{take-append-le}
use Rattle.std.proofs.Math.Seq.{take-append-add}
use Rattle.std.specs.Io.KnownBytes.{Appends}
use Rattle.abt_text.specs.Streams.{AppendsPrefix}

pub appends_both : (a b c : Option (List ℕ)) (first others : List ℕ) → Appends a b first → Appends b c others → Appends a c (first ++ others)
appends_both a b c first others p q = Appends-trans a b c first others p q

-- a part of the first piece is one of all
pub prefix_of_first : (a b : Option (List ℕ)) (first others : List ℕ) → AppendsPrefix a b first → AppendsPrefix a b (first ++ others)
prefix_of_first a b first others p =
    let short = p.short in
    record {
      count = p.count;
      short = (let sum = length-append first others in omega arith);
      front = subst (Appends a b) (sym (take-append-le p.count first others (omega arith))) p.front;
    }

-- the first piece, and a part of the others
pub prefix_of_second : (a b c : Option (List ℕ)) (first others : List ℕ) → Appends a b first → AppendsPrefix b c others → AppendsPrefix a c (first ++ others)
prefix_of_second a b c first others done p =
    let short = p.short in
    record {
      count = length first + p.count;
      short = (let sum = length-append first others in omega arith);
      front = subst (Appends a c) (sym (take-append-add first others p.count)) (Appends-trans a b c first (take p.count others) done p.front);
    }
