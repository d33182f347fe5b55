-- What the words say of a picture (docs/PICTURES.md, "Drawing").
use Rattle.std.specs.Prelude.{◌≡◌, ◌≤◌, ℕ, ◌==◌, ◌&&◌, eqb, Bool, true, false, if◌then◌else◌, List, [], Option, None, Some, codes, string_bytes}
use Rattle.std.specs.List.{ends_with, slice_split}
use Rattle.std.specs.Str.{bytes_eq}
use Rattle.clap.specs.declared.parser.matches.ArgMatches.{ArgMatches}
use Rattle.abt_text.specs.Text.{Text}
use Rattle.abt_text.specs.Words.{number_of}
use Rattle.abt_plans.specs.declared.picture.PictureForm.{PictureForm}
use Rattle.abt_plans.specs.declared.picture.PictureForm.TheVariants as form
use Rattle.abt_plans.specs.declared.picture.PicturePlan.{PicturePlan}
use Rattle.abt_cli.specs.Words.{text_in, AreNumbers}

abbrev pub ends_in : (text ending : Text) → Bool
ends_in text ending = ends_with eqb text ending

-- the form of what is drawn into a file, by the end of its name
abbrev pub form_in : (file : Text) → Option PictureForm
form_in file = if ends_in file (codes ".html") then Some form.Page
    else if ends_in file (codes ".svg") then Some form.Svg
    else if ends_in file (codes ".txt") then Some form.Text
    else None

-- the picture of `abt draw` may go to `-`, the standard output
abbrev pub form_of : (name file : Text) → Option PictureForm
form_of name file = if bytes_eq name (codes "output") && bytes_eq file (codes "-") then Some form.Svg else form_in file

-- the parts of a list between its commas
abbrev pub parts_of : Text → List Text
parts_of list = slice_split (λ octet. octet == 44) list

-- the connections that are named: none, if there is no list
abbrev pub AreNamed : Option Text → (only : List ℕ) → Type 0
AreNamed None only = only ≡ []
AreNamed (Some list) only = AreNumbers (parts_of list) only

-- the event that is named, counted from 1, if one is
abbrev pub IsEventOf : Option Text → Option ℕ → Type 0
IsEventOf None number = number ≡ None
IsEventOf (Some word) None = ⊥
IsEventOf (Some word) (Some number) = (number_of word ≡ Some number) × (1 ≤ number)

-- What is to be shown, and in which file, is what the words say; the name of the file stands under a name of its own.
pub record IsPicturePlan (found : ArgMatches) (name : Text) (plan : PicturePlan) : Type 0 where
  pub out : text_in found name ≡ Some (string_bytes plan.out)
  pub form : form_of name (string_bytes plan.out) ≡ Some plan.form
  pub only : AreNamed (text_in found (codes "only")) plan.only.items
  pub from : IsEventOf (text_in found (codes "from")) plan.from
  pub to : IsEventOf (text_in found (codes "to")) plan.to

-- The picture of an audit or of a play is the one that its words ask for, if they name a file for it.
abbrev pub IsPictureIfNamed : ArgMatches → Option PicturePlan → Type 0
IsPictureIfNamed found None = text_in found (codes "draw") ≡ None
IsPictureIfNamed found (Some picture) = IsPicturePlan found (codes "draw") picture
