-- StandardFacts: examples of the definitions of this crate (docs/PROFILE.md, section 11).
use Rattle.std.proofs.Common.{◌≡◌, ◌≤◌, ℕ, zero, suc, List, [], ◌∷◌, None, Some, codes, refl, ap, sym, ◌∙◌}
use Rattle.std.proofs.Common.{arith, slice_get}
use Rattle.std.proofs.Math.Path.{subst}
use Rattle.asn1_names.specs.declared.first_fault.FaultKind.TheVariants as noted
use Rattle.asn1_names.specs.declared.refusal.ModuleRefusal.TheVariants.{UnknownType, Memory}
use Rattle.asn1_names.specs.FirstModuleFault.{HasFault}
use Rattle.asn1_names.specs.FirstModuleFault.FaultKind.{TypeUnknown, ModuleUnknown}
use Rattle.asn1_names.specs.ModuleTerms.{AssignmentTerm, ModuleTerm, TypeTerm}
use Rattle.asn1_names.specs.ModuleTerms.TypeTerm.{Repeated}
use Rattle.asn1_names.specs.Containment.{Within}
use Rattle.asn1_names.specs.Containment.Within.{element, itself}
use Rattle.asn1_names.specs.Occurrences.{Assigns, first_word, type_assigned}
use Rattle.asn1_names.proofs.TableAnswers.{some_is}
use Rattle.asn1_names.proofs.Texts.{module_of, simple, type_assignment, word}
use Rattle.asn1_resolve.specs.FaultSets.{Either, In, IsFirstOf, OneFault, noted_at}
use Rattle.asn1_resolve.specs.ModuleOrder.{AreInOrder}
use Rattle.asn1_resolve.specs.ToldFaults.{TellsFault}
use Rattle.asn1_resolve.proofs.FirstFaults.{one_of_both}
use Rattle.asn1_resolve.proofs.FoundFaults.{contained_get}

-- `M DEFINITIONS ::= BEGIN T ::= SEQUENCE OF NULL END`, once with the words in order, and once with them turned round
abbrev in_order : List ModuleTerm
in_order = module_of 0 (codes "M") []
    (type_assignment 24 (codes "T") (Repeated (word 30 (codes "SEQUENCE")) None (simple 42 (codes "NULL"))) ∷ []) ∷ []

ordered : {inner : TypeTerm} →
    Within inner (Repeated (word 30 (codes "SEQUENCE")) None (simple 42 (codes "NULL"))) → 30 ≤ (first_word inner).at
ordered itself = omega arith
ordered (element itself) = omega arith

only_type : (document m : ℕ) (of : TypeTerm) → Assigns in_order document m of →
    of ≡ Repeated (word 30 (codes "SEQUENCE")) None (simple 42 (codes "NULL"))
only_type document zero of assigns =
    let home = some_is _ assigns.in_module assigns.is_in.module_at in
    let got = contained_get assigns.in_module.assignments assigns.assignment assigns.stands in
    sym assigns.is_of ∙ by got.0 (ap (λ (x : ModuleTerm). slice_get x.assignments got.0) home ∙ got.1)
  where
    by : (k : ℕ) → slice_get (type_assignment 24 (codes "T")
        (Repeated (word 30 (codes "SEQUENCE")) None (simple 42 (codes "NULL"))) ∷ []) k ≡ Some assigns.assignment →
        type_assigned assigns.assignment.assigned ≡
        Repeated (word 30 (codes "SEQUENCE")) None (simple 42 (codes "NULL"))
    by zero is = ap (λ (x : AssignmentTerm). type_assigned x.assigned) (sym (some_is _ assigns.assignment is))
    by (suc k) is = absurd (cc)
only_type document (suc m) of assigns = let e = assigns.is_in.module_at in absurd (cc)

is_in_order : AreInOrder in_order
is_in_order document m of inner assigns within =
    let is = only_type document m of assigns in
    subst (λ (t : TypeTerm). (first_word t).at ≤ (first_word inner).at) (sym is)
    (ordered (subst (λ (t : TypeTerm). Within inner t) is within))

abbrev turned : List ModuleTerm
turned = module_of 0 (codes "M") []
    (type_assignment 24 (codes "T") (Repeated (word 42 (codes "SEQUENCE")) None (simple 30 (codes "NULL"))) ∷ []) ∷ []

turned_assigns : Assigns turned 0 0 (Repeated (word 42 (codes "SEQUENCE")) None (simple 30 (codes "NULL")))
turned_assigns = record {
  in_module = module_of 0 (codes "M") []
      (type_assignment 24 (codes "T") (Repeated (word 42 (codes "SEQUENCE")) None (simple 30 (codes "NULL"))) ∷ []);
  is_in = record { module_at = refl; numbered = refl };
  assignment = type_assignment 24 (codes "T")
      (Repeated (word 42 (codes "SEQUENCE")) None (simple 30 (codes "NULL")));
  stands = (0, omega arith, refl);
  is_of = refl;
}

turned_is_not : ¬ AreInOrder turned
turned_is_not order =
    let before : 42 ≤ 30 = order 0 0 (Repeated (word 42 (codes "SEQUENCE")) None (simple 30 (codes "NULL")))
    (simple 30 (codes "NULL")) turned_assigns (element itself) in
    absurd (omega (arith, before))

-- two faults of one token: that of an unknown type comes first
first_of_two : IsFirstOf (In 0 (Either (OneFault (Unit {0}) 5 TypeUnknown) (OneFault ⊥ 5 ModuleUnknown)))
    (Some (noted_at 0 5 noted.UnknownType))
first_of_two = one_of_both 0 5 5 noted.UnknownType ModuleUnknown tt (λ never. never)

-- a refusal tells the fault of its kind, its document and its token
tells_unknown : TellsFault in_order (UnknownType 0 30) ≡ HasFault in_order TypeUnknown 0 30
tells_unknown = refl

tells_nothing : TellsFault in_order Memory
tells_nothing = tt
