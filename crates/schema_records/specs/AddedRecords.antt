-- AddedRecords: what a part adds to a list of records: one behind the others; of an attribute that isn't registered none
-- (X.722, section 8; docs/PROFILE.md, section 18).
use Rattle.std.specs.Prelude.{◌≡◌, ◌++◌, ◌∷◌, [], ℕ, List, None}
use Rattle.term_model.specs.declared.schema.AttrRec.{AttrRec}
use Rattle.asn1_names.specs.ModuleTerms.{ModuleTerm}
use Rattle.linked_parts.specs.declared.linked.Linked.{Linked}
use Rattle.linked_parts.specs.declared.linked.LinkedAttribute.{LinkedAttribute}
use Rattle.schema_records.specs.MemberRecords.{IsAttribute}

pub record Adds {A B : Type 0} (Is : A → B → Type 0) (part : A) (before after : List B) : Type 0 where
  pub x : B
  pub behind : after ≡ before ++ x ∷ []
  pub is : Is part x

pub data AddsAttribute (ms : List ModuleTerm) (linked : Linked) (k : ℕ) (part : LinkedAttribute)
    (before after : List AttrRec) : Type 0 where
  one : (x : AttrRec) → after ≡ before ++ x ∷ [] → IsAttribute ms linked k x →
      AddsAttribute ms linked k part before after
  unregistered : part.head.identifier ≡ None → after ≡ before → AddsAttribute ms linked k part before after
