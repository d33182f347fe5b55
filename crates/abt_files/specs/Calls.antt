-- A file that is written, by its calls, the newest first.
use Rattle.std.specs.Prelude.{◌≡◌, ◌⊎◌, ◌++◌, List, [], ◌∷◌, Bool, true, false, if◌then◌else◌}
use Rattle.abt_text.specs.Text.{Text}
use Rattle.abt_files.specs.declared.calls.OutCall.{OutCall}
use Rattle.abt_files.specs.declared.calls.OutCall.TheVariants.{Made, Opened, Wrote, Failed, Synced, Named, Removed, Left}

-- the octets that went out
abbrev pub octets_of : List OutCall → Text
octets_of [] = []
octets_of (Wrote octet ∷ earlier) = octets_of earlier ++ (octet ∷ [])
octets_of (call ∷ earlier) = octets_of earlier

-- the calls, and behind them those that write these octets
abbrev pub wrote : List OutCall → Text → List OutCall
wrote earlier [] = earlier
wrote earlier (octet ∷ octets) = wrote (Wrote octet ∷ earlier) octets

-- whether one of them failed
abbrev pub has_failed : List OutCall → Bool
has_failed [] = false
has_failed (Failed ∷ earlier) = true
has_failed (call ∷ earlier) = has_failed earlier

-- whether a file was made beside OUT, which is to have its name
abbrev pub is_made : List OutCall → Bool
is_made [] = false
is_made (Made ∷ earlier) = true
is_made (call ∷ earlier) = is_made earlier

-- whether the file that was made has OUT's name
abbrev pub is_named : List OutCall → Bool
is_named [] = false
is_named (Named ∷ earlier) = true
is_named (call ∷ earlier) = is_named earlier

-- A file was made, or OUT itself was opened, and nothing went out.
abbrev pub IsBegun : List OutCall → Type 0
IsBegun calls = (calls ≡ Made ∷ []) ⊎ (calls ≡ Opened ∷ [])

-- No call failed. A file that was made was synced, and has OUT's name.
pub record IsKept (old new : List OutCall) : Type 0 where
  pub whole : has_failed old ≡ false
  pub calls : new ≡ (if is_made old then Named ∷ Synced ∷ old else old)

-- Nothing more was asked, or what was asked failed: the file has another name than OUT.
abbrev pub IsUnnamed : (old new : List OutCall) → Type 0
IsUnnamed old new = (new ≡ old) ⊎ (new ≡ Failed ∷ old) ⊎ (new ≡ Failed ∷ Synced ∷ old)

-- It was asked for last that a file be removed which never had OUT's name.
pub record IsRemoved (old new : List OutCall) : Type 0 where
  pub between : List OutCall
  pub unnamed : IsUnnamed old between
  pub calls : (new ≡ Removed ∷ between) ⊎ (new ≡ Left ∷ between)

-- A file that was made is removed. To an OUT that was opened nothing more is done.
pub record IsGone (old new : List OutCall) : Type 0 where
  pub made : is_made old ≡ true → IsRemoved old new
  pub opened : is_made old ≡ false → new ≡ old

-- A text went out, all of it and no more, and no call failed. If a file was made for it, that has OUT's name.
pub record IsWritten (text : Text) (calls : List OutCall) : Type 0 where
  pub octets : octets_of calls ≡ text
  pub whole : has_failed calls ≡ false
  pub named : is_made calls ≡ true → is_named calls ≡ true
