-- Words behind a command's name that ask for no command.
use Rattle.std.specs.Prelude.{◌≡◌, ◌≢◌, ◌⊎◌, ◌^◌, ℕ, List, Option, None, codes}
use Rattle.clap.specs.declared.parser.matches.ArgMatches.{ArgMatches}
use Rattle.abt_text.specs.Text.{Text}
use Rattle.abt_text.specs.Words.{number_below}
use Rattle.abt_codes.specs.Nearest.{IsSaid}
use Rattle.abt_codes.specs.declared.message.Kind.{Kind}
use Rattle.abt_codes.specs.declared.nearest.SaidRate.{SaidRate}
use Rattle.abt_plans.specs.declared.picture.PicturePlan.{PicturePlan}
use Rattle.abt_perform.specs.declared.plan.WordsFault.{WordsFault}
use Rattle.abt_perform.specs.declared.plan.WordsFault.TheVariants.{Memory}
use Rattle.abt_plans.specs.declared.chances.Chances.{Chances}
use Rattle.abt_weave.specs.declared.actor.Actor.{Actor}
use Rattle.abt_cli.specs.Commands.{kind_word, IsChancesOf, IsActorIn, IsCountIn}
use Rattle.abt_cli.specs.Pictures.{IsPicturePlan}
use Rattle.abt_cli.specs.Words.{text_in, word_in, words_in, AreNumbers, IsCapacity, IsCount, IsEpochIn, IsNumberIn, IsTolerance, NameOneTwice}

-- The word says no such number, rate or message.
abbrev pub IsNoCapacity : (word : Text) → Type 0
IsNoCapacity word = (capacity : ℕ) → IsCapacity word capacity → ⊥

abbrev pub IsNoCount : (word : Text) → Type 0
IsNoCount word = (workers : ℕ) → IsCount word workers → ⊥

abbrev pub IsNoTolerance : (word : Text) → Type 0
IsNoTolerance word = (tau : ℕ) → IsTolerance word tau → ⊥

abbrev pub IsNoRate : (word : Text) → Type 0
IsNoRate word = (said : SaidRate) → IsSaid word said → ⊥

abbrev pub IsNoKind : (word : Text) → Type 0
IsNoKind word = (kind : Kind) → kind_word kind ≢ word

abbrev pub IsNoNumberIn : Option Text → (default limit : ℕ) → Type 0
IsNoNumberIn word default limit = (number : ℕ) → IsNumberIn word default limit number → ⊥

-- One of the words says no number below 2^16.
abbrev pub AreNoNumbers : (words : List Text) → Type 0
AreNoNumbers words = (numbers : List ℕ) → AreNumbers words numbers → ⊥

-- The words say no count of link workers, no chances of a play, or no picture.
abbrev pub IsNoCountIn : Option Text → Type 0
IsNoCountIn word = (workers : Option ℕ) → IsCountIn word workers → ⊥

-- The word says no epoch.
abbrev pub IsNoEpochIn : Option Text → Type 0
IsNoEpochIn word = (epoch : Option ℕ) → IsEpochIn word epoch → ⊥

abbrev pub HasNoChances : ArgMatches → Type 0
HasNoChances found = (chances : Chances) → IsChancesOf found chances → ⊥

abbrev pub HasNoPicture : ArgMatches → (name : Text) → Type 0
HasNoPicture found name = (picture : PicturePlan) → IsPicturePlan found name picture → ⊥

-- A word that is to name a port or a source names none.
abbrev pub IsNoActorIn : (port source : Option Text) → Type 0
IsNoActorIn port source = (actor : Option Actor) → IsActorIn port source actor → ⊥

abbrev pub HasNoLogActor : ArgMatches → Type 0
HasNoLogActor found = IsNoActorIn (text_in found (codes "port")) (text_in found (codes "source"))

-- The words of this command say none, or name a port twice.
abbrev pub SaysNone : (name : Text) → ArgMatches → Type 0
SaysNone name found =
    ((name ≡ codes "port") × IsNoCapacity (word_in found (codes "CAPACITY"))) ⊎
    ((name ≡ codes "threads") × IsNoCount (word_in found (codes "workers"))) ⊎
    ((name ≡ codes "audit") × HasNoPicture found (codes "draw")) ⊎
    ((name ≡ codes "audit") × HasNoLogActor found) ⊎
    ((name ≡ codes "police") × IsNoTolerance (word_in found (codes "tau"))) ⊎
    ((name ≡ codes "police") × IsNoRate (word_in found (codes "rate"))) ⊎
    ((name ≡ codes "shape") × IsNoRate (word_in found (codes "rate"))) ⊎
    ((name ≡ codes "play") × HasNoChances found) ⊎
    ((name ≡ codes "play") × HasNoPicture found (codes "draw")) ⊎
    ((name ≡ codes "write") × IsNoKind (word_in found (codes "MESSAGE"))) ⊎
    ((name ≡ codes "draw") × IsNoCountIn (text_in found (codes "workers"))) ⊎
    ((name ≡ codes "draw") × HasNoPicture found (codes "output")) ⊎
    ((name ≡ codes "switch") × AreNoNumbers (words_in found (codes "port"))) ⊎
    ((name ≡ codes "switch") × NameOneTwice (words_in found (codes "port"))) ⊎
    ((name ≡ codes "source") × (number_below (2 ^ 16) (word_in found (codes "CONNECTION")) ≡ None)) ⊎
    ((name ≡ codes "source") × IsNoEpochIn (text_in found (codes "clock")))

-- The name is that of a command.
abbrev pub IsCommand : (name : Text) → Type 0
IsCommand name =
    (name ≡ codes "rate") ⊎ (name ≡ codes "cell") ⊎ (name ≡ codes "port") ⊎ (name ≡ codes "run") ⊎ (name ≡ codes "threads") ⊎
    (name ≡ codes "explain") ⊎ (name ≡ codes "check") ⊎ (name ≡ codes "audit") ⊎ (name ≡ codes "police") ⊎ (name ≡ codes "shape") ⊎
    (name ≡ codes "step") ⊎ (name ≡ codes "play") ⊎ (name ≡ codes "code") ⊎ (name ≡ codes "write") ⊎ (name ≡ codes "draw") ⊎
    (name ≡ codes "switch") ⊎ (name ≡ codes "source")

-- Words are refused for want of memory, or as they say none, or a port twice.
abbrev pub IsRefused : (name : Text) → ArgMatches → WordsFault → Type 0
IsRefused name found fault = (fault ≡ Memory) ⊎ SaysNone name found
