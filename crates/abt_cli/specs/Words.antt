-- The words that `clap` found behind a command's name, and what they say.
use Rattle.std.specs.Prelude.{◌≡◌, ◌⊎◌, ◌^◌, ◌<◌, ◌≤◌, ℕ, Bool, true, false, if◌then◌else◌, List, [], ◌∷◌, map, length, slice_index, Option, None, Some, unwrap_or, option_map, codes}
use Rattle.std.specs.Str.{bytes_eq}
use Rattle.clap.specs.declared.parser.matches.ArgMatches.{ArgMatches}
use Rattle.clap.specs.Words.{found_of, first_value, matched_of, raw_values, one_text}
use Rattle.abt_rate.specs.Limits.{capacity_max, tau_max, AreWorkers}
use Rattle.abt_text.specs.Text.{Text}
use Rattle.abt_text.specs.Words.{number_below, number_of}
use Rattle.abt_codes.specs.Durations.{picoseconds_in}
use Rattle.abt_codes.specs.Quantity.{units_in}
use Rattle.abt_cli.specs.Decimal.{decimal_in}

-- the word that stands for a name of the help, if one does
abbrev pub text_in : ArgMatches → (name : Text) → Option Text
text_in found name = first_value (found_of found) name

-- the word that stands for a name of the help, empty if none does
abbrev pub word_in : ArgMatches → (name : Text) → Text
word_in found name = unwrap_or (text_in found name) []

-- the file that a word names; `-` is the standard input
abbrev pub named_file : (word : Option Text) → Option Text
named_file None = None
named_file (Some word) = if bytes_eq word (codes "-") then None else Some word

-- the file of the scenario, if one is named
abbrev pub file_in : ArgMatches → Option Text
file_in found = named_file (text_in found (codes "FILE"))

-- all words that stand for a name of the help, in their order
abbrev pub words_in : ArgMatches → (name : Text) → List Text
words_in found name = unwrap_or (option_map raw_values (matched_of (found_of found) name)) []

-- the files that words name; `-` alone is the standard input
abbrev pub named_files : (words : List Text) → List Text
named_files [] = []
named_files (word ∷ []) = if bytes_eq word (codes "-") then [] else word ∷ []
named_files (word ∷ next ∷ words) = word ∷ next ∷ words

-- the files of journals, in their order
abbrev pub files_in : ArgMatches → List Text
files_in found = named_files (words_in found (codes "FILES"))

-- whether a flag is set; None if the command has no such flag
abbrev pub flag_in : ArgMatches → (flag : Text) → Option Text
flag_in found flag = one_text (found_of found) flag

-- The command has no such flag, or its flag isn't set.
abbrev pub IsUnset : Option Text → Type 0
IsUnset flag = (flag ≡ None) ⊎ (flag ≡ Some (codes "false"))

-- The value is whether the flag is set.
pub record IsFlag (found : ArgMatches) (flag : Text) (value : Bool) : Type 0 where
  pub set : flag_in found flag ≡ Some (codes "true") → value ≡ true
  pub unset : IsUnset (flag_in found flag) → value ≡ false

-- The word says a number of units, in decimal digits or as the whole units of a rate in words.
abbrev pub AreUnits : (word : Text) → ℕ → Type 0
AreUnits word units = (decimal_in word ≡ Some units) ⊎ (units_in word ≡ Some units)

-- The word says a capacity, of at most 2^60.
abbrev pub IsCapacity : (word : Text) → ℕ → Type 0
IsCapacity word capacity = AreUnits word capacity × (capacity ≤ capacity_max)

-- The word says how many link workers there are, 1 to 64.
abbrev pub IsCount : (word : Text) → ℕ → Type 0
IsCount word workers = (decimal_in word ≡ Some workers) × AreWorkers workers

-- The word says a tolerance, of at most 10^12 picoseconds.
abbrev pub IsTolerance : (word : Text) → ℕ → Type 0
IsTolerance word tau = (picoseconds_in word ≡ Some tau) × (tau ≤ tau_max)

-- The number is the one that the word says, which is at most the limit; without a word it is the default.
abbrev pub IsNumberIn : Option Text → (default limit : ℕ) → ℕ → Type 0
IsNumberIn None default limit number = number ≡ default
IsNumberIn (Some word) default limit number = (number_of word ≡ Some number) × (number ≤ limit)

-- Moments are read from the machine's clock if a word says at how many nanoseconds of it the run began.
abbrev pub IsEpochIn : Option Text → (epoch : Option ℕ) → Type 0
IsEpochIn None epoch = epoch ≡ None
IsEpochIn (Some word) None = ⊥
IsEpochIn (Some word) (Some epoch) = number_of word ≡ Some epoch

-- Each of the words says its number, below 2^16.
abbrev pub AreNumbers : (words : List Text) → (numbers : List ℕ) → Type 0
AreNumbers words numbers = map (number_below (2 ^ 16)) words ≡ map Some numbers

-- A number stands in a list, and later again.
abbrev pub StandsTwice : (numbers : List ℕ) → Type 0
StandsTwice numbers = (i : ℕ) × (j : ℕ) × (i < j) × (j < length numbers) × (slice_index numbers i ≡ slice_index numbers j)

-- Each of the words names a port of its own, by its number below 2^16.
pub record NamePorts (words : List Text) (ports : List ℕ) : Type 0 where
  pub numbers : AreNumbers words ports
  pub once : StandsTwice ports → ⊥

-- The words name ports, and one of them twice.
abbrev pub NameOneTwice : (words : List Text) → Type 0
NameOneTwice words = (ports : List ℕ) × AreNumbers words ports × StandsTwice ports
