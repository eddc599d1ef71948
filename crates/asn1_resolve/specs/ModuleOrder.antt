-- ModuleOrder: the words of types stand in order: a type begins no later than the types in its text, as in every text
-- that is read (X.680, section 17; docs/PROFILE.md, section 11).
use Rattle.std.specs.Prelude.{◌≤◌, ℕ, List}
use Rattle.asn1_names.specs.Containment.{Within}
use Rattle.asn1_names.specs.ModuleTerms.{TypeTerm, ModuleTerm}
use Rattle.asn1_names.specs.Occurrences.{Assigns, first_word}

-- the first word of each assigned type stands at or before those of the types in it
abbrev pub AreInOrder : List ModuleTerm → Type 0
AreInOrder ms = (document m : ℕ) (of inner : TypeTerm) → Assigns ms document m of → Within inner of →
    (first_word of).at ≤ (first_word inner).at
