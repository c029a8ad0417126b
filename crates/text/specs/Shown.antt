-- What is written of a bad field, of a numbered line of output and of a whole sheet. Assumes nothing.
--
-- bad_text e           a bad field
-- answered_text s r    the answer r, of which s says what is written; a bad field where there is none
-- numbered_text n o    the line with the number n that has the text o
-- summed_text o f u     a sheet with the text o, f fit lines and u unfit ones
use Rattle.std.specs.Prelude.{ℕ, List, ◌++◌, Some, Ok, Err, codes, decimal, Option, Result}
use Rattle.std.specs.Option.{option_map}
use Rattle.text.specs.declared.fields.BadField.{BadField}

-- `bad PLACE`
abbrev pub bad_text : BadField → List ℕ
bad_text e = codes "bad " ++ decimal e.place

abbrev pub answered_text : {A : Type 0} → (A → Option (List ℕ)) → Result A BadField → Option (List ℕ)
answered_text shown (Ok a) = shown a
answered_text shown (Err e) = Some (bad_text e)

-- `NUMBER TEXT`
abbrev pub numbered_text : ℕ → Option (List ℕ) → Option (List ℕ)
numbered_text n o = option_map (λ bs. decimal n ++ (codes " " ++ bs)) o

-- `sheet TEXT fit COUNT unfit COUNT`
abbrev pub summed_text : Option (List ℕ) → ℕ → ℕ → Option (List ℕ)
summed_text o f u = option_map (λ bs. codes "sheet " ++ (bs ++ (codes " fit " ++ (decimal f ++ (codes " unfit " ++ decimal u))))) o
