-- NotedDefaults: texts of DEFAULT that denote no value, as they are noted while types are named: what was noted before
-- is kept, or one before it, and no text of another kind comes in (X.680, section 25; docs/PROFILE.md, section 18).
use Rattle.std.specs.Prelude.{◌≡◌, ◌⊎◌, List, Option, Some}
use Rattle.asn1_names.specs.ModuleTerms.{ModuleTerm}
use Rattle.linked_parts.specs.declared.linked.Linked.{Linked}
use Rattle.linked_parts.specs.declared.linked.NamedMeaning.{NamedMeaning}
use Rattle.filled_syntaxes.specs.BadDefaults.{BadBeside}
use Rattle.filled_syntaxes.specs.LinkedMeanings.{linked_arcs, linked_meaning}
use Rattle.filled_syntaxes.specs.NotedTexts.{KeepsText, TextSet}
use Rattle.filled_syntaxes.specs.declared.bad_texts.TextPlace.{TextPlace}

-- what is noted was noted before, or is one of these texts; what was noted before is kept, or one before it. A text of
-- the set may be left out, where it is noted elsewhere.
pub record NotesSome (Texts : TextSet) (before after : Option TextPlace) : Type 0 where
  pub there : (x : TextPlace) → after ≡ Some x → (before ≡ Some x) ⊎ Texts x
  pub kept : (x : TextPlace) → before ≡ Some x → KeepsText after x

-- the texts of DEFAULT that denote none beside the types that names mean
abbrev pub BadDefaults : List ModuleTerm → Linked → TextSet
BadDefaults ms linked place = (named : NamedMeaning) × BadBeside ms (linked_arcs linked) (linked_meaning ms named) place
