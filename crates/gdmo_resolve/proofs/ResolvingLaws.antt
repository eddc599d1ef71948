-- ResolvingLaws: what is known of documents on the way, as the calls ask for it.
use Rattle.std.specs.Prelude.{◌≡◌, ◌<◌, ◌⊎◌, ℕ, zero, suc, Bool, List, false, true, None, Option, Some, get_or, length, refl}
use Rattle.std.specs.Prelude.{replicate}
use Rattle.std.proofs.Common.{◌∙◌, ap, arith, inl, inr, subst, sym}
use Rattle.std.proofs.lemmas.Bool.{false≢true}
use Rattle.asn1_names.specs.AssignmentNumbers.{assignment_count}
use Rattle.asn1_names.specs.FirstNames.{found}
use Rattle.asn1_names.specs.TermViews.{module_terms}
use Rattle.asn1_numbers.proofs.StandingLaws.{number_within}
use Rattle.begun_values.specs.BegunLaw.{MarksAll, MarksTellBegun}
use Rattle.begun_values.specs.ModuleValues.{ModuleFirsts}
use Rattle.begun_values.specs.SectionValues.{SectionFirsts}
use Rattle.first_name_arcs.specs.BegunFirst.{AreBegun, IsBegunAt}
use Rattle.first_name_arcs.proofs.UnequalLaws.{one_first}
use Rattle.gdmo_begun_names.specs.declared.begun_names.BegunNames.{BegunNames}
use Rattle.gdmo_begun_names.specs.BegunMarks.{DefinesOne, IsMarked}
use Rattle.gdmo_begun_names.specs.StatedNames.{StatedFirsts}
use Rattle.gdmo_first_names.specs.DefinedNames.{DefinesFirstAt, TellsDefined}
use Rattle.gdmo_first_names.proofs.TextLaws.{read_terms}
use Rattle.gdmo_names.specs.PartTerms.{PartTerms, module_terms_of}
use Rattle.gdmo_names.specs.TargetTables.{AreFitting}
use Rattle.gdmo_targets.proofs.ReferenceLaws.{are_fitting}
use Rattle.linked_documents.specs.CompleteParts.{AreKnownSections}
use Rattle.gdmo_resolve.specs.Resolved.{AreKnownParts}
use Rattle.gdmo_resolve.specs.declared.known_parts.KnownParts.{KnownParts}

-- ---- what is known

pub fits : (ps : PartTerms) (known : KnownParts) → AreKnownParts ps known → AreFitting ps
fits ps known k = are_fitting ps known.linkage.now.templates.now k.is_linkage.are_found

pub known_sections : (ps : PartTerms) (known : KnownParts) → AreKnownParts ps known →
    AreKnownSections ps known.linkage.now.templates.now known.parts.now.sections.items known.targets.now
known_sections ps known k = record {
  are_rules = k.are_rules;
  are_instances = k.are_instances;
  are_targets = k.are_targets;
}

pub same_modules : (ps : PartTerms) (known : KnownParts) → AreKnownParts ps known →
    module_terms known.tables.now ≡ module_terms_of ps
same_modules ps known k = sym (read_terms ps known.tables.now k.has_modules)

-- ---- first names with which something begins

none_there : (n k : ℕ) → get_or (replicate n false) k false ≡ false
none_there zero k = refl
none_there (suc n) zero = refl
none_there (suc n) (suc k) = none_there n k

pub none_marked : (marks : List Bool) (count : ℕ) → marks ≡ replicate count false → (number : ℕ) →
    ¬ (get_or marks number false ≡ true)
none_marked marks count is number marked = false≢true (sym (none_there count number)
    ∙ ap (λ xs. get_or xs number false) (sym is) ∙ marked)

module _ (ps : PartTerms) (before after : BegunNames) (m : MarksAll ps before after) (law : MarksTellBegun)
    (all : length before.begun.items ≡ assignment_count (module_terms_of ps)) where
  -- a marked assignment is the first to define some name
  record IsDefiner (number : ℕ) : Type 0 where
    pub name : List ℕ
    pub is : found before.defined.now name ≡ Some number

  definer : (number : ℕ) → IsMarked after number → IsDefiner number
  definer number marked = of_identifiers (m.marks_identifiers.there number marked)
    where
      modules_table : m.with_modules.defined.now ≡ before.defined.now
      modules_table = ap (λ table. table.now) m.marks_modules.table

      sections_table : m.with_sections.defined.now ≡ before.defined.now
      sections_table = ap (λ table. table.now) m.marks_sections.table ∙ modules_table

      of_modules : IsMarked before number ⊎ DefinesOne (ModuleFirsts (module_terms_of ps)) before number →
          IsDefiner number
      of_modules (inl marked) = absurd (m.none number marked)
      of_modules (inr one) = record { name = one.first.text; is = one.is }

      of_sections : IsMarked m.with_modules number ⊎ DefinesOne (SectionFirsts ps) m.with_modules number →
          IsDefiner number
      of_sections (inl marked) = of_modules (m.marks_modules.there number marked)
      of_sections (inr one) = record {
        name = one.first.text;
        is = ap (λ table. found table one.first.text) (sym modules_table) ∙ one.is;
      }

      of_identifiers : IsMarked m.with_sections number ⊎ DefinesOne (StatedFirsts ps) m.with_sections number →
          IsDefiner number
      of_identifiers (inl marked) = of_sections (m.marks_sections.there number marked)
      of_identifiers (inr one) = record {
        name = one.first.text;
        is = ap (λ table. found table one.first.text) (sym sections_table) ∙ one.is;
      }

  within : (name : List ℕ) (number : ℕ) → DefinesFirstAt ps name number → number < length before.begun.items
  within name number d =
      let below = number_within (module_terms_of ps) number d.numbered d.at in omega (arith, below, all)

  told : (name : List ℕ) (number : ℕ) → found before.defined.now name ≡ Some number → DefinesFirstAt ps name number
  told name number is = subst (TellsDefined ps name) is (m.are_defined name)

  to_begun : (number : ℕ) → IsMarked after number → IsBegunAt ps number
  to_begun number marked =
      let one = definer number marked in
      let d = told one.name number one.is in record {
        name = one.name;
        defines = d;
        begins = (law ps before after one.name number m one.is (within one.name number d)).0 marked;
      }

  found_first : (name : List ℕ) (number : ℕ) → DefinesFirstAt ps name number →
      found before.defined.now name ≡ Some number
  found_first name number d = by (found before.defined.now name) refl
    where
      by : (answer : Option ℕ) → found before.defined.now name ≡ answer → answer ≡ Some number
      by None is = absurd (subst (TellsDefined ps name) is (m.are_defined name) d.no_root d.numbered.in_module
          d.numbered.place d.defines.defines)
      by (Some k) is = ap Some (one_first ps name k number (told name k is) d)

  pub are_begun : AreBegun ps after.begun.items
  are_begun number = (
    to_begun number,
    λ b. (law ps before after b.name number m (found_first b.name number b.defines)
        (within b.name number b.defines)).1 b.begins,
  )
