-- ToldFaults: which first fault a refusal tells of modules, of references or of classes, and that there is one at most
-- (docs/PROFILE.md, sections 2, 11, 12 and 18).
use Rattle.std.specs.Prelude.{get_or}
use Rattle.std.proofs.Common.{◌≡◌, ◌<◌, ◌≤◌, ℕ, List, [], ◌∷◌, refl, arith}
use Rattle.asn1_names.specs.declared.refusal.ModuleRefusal.{ModuleRefusal}
use Rattle.asn1_names.specs.declared.refusal.UnsupportedKind.{UnsupportedKind}
use Rattle.asn1_names.specs.declared.refusal.UnsupportedKind.TheVariants.{MisplacedConstraint, TagNumber, TooManyNodes}
use Rattle.asn1_names.specs.declared.refusal.UnsupportedKind.TheVariants.{TypeWord, WideNumber}
use Rattle.asn1_names.specs.FirstModuleFault as modules
use Rattle.asn1_names.specs.FirstModuleFault.{FaultKind, unsupported_rank}
use Rattle.asn1_names.specs.FirstModuleFault.FaultKind.{ModuleUnknown, NotSupported, TagsAmbiguous, TypeCyclic}
use Rattle.asn1_names.specs.FirstModuleFault.FaultKind.{TypeUnknown}
use Rattle.asn1_names.specs.ModuleTerms.{ModuleTerm}
use Rattle.gdmo_names.specs.declared.refusal.LabelRefusal.{LabelRefusal}
use Rattle.gdmo_names.specs.FirstLabelFault as references
use Rattle.gdmo_names.specs.FirstLabelFault.{LabelFault}
use Rattle.gdmo_names.specs.FirstLabelFault.LabelFault.{IdentifierDouble, KindWrong, LabelDouble, LabelUnknown}
use Rattle.gdmo_names.specs.PartTerms.{PartTerms}
use Rattle.linked_parts.specs.declared.linked.Linked.{Linked}
use Rattle.class_faults.specs.declared.refusal.ClassRefusal.{ClassRefusal}
use Rattle.class_faults.specs.FirstClassFault as classes
use Rattle.class_faults.specs.FirstClassFault.{ClassFault}
use Rattle.class_faults.specs.FirstClassFault.ClassFault.{ClassCyclic, DefaultUnequal, PermittedEmpty, SetMissing}
use Rattle.class_faults.specs.FirstClassFault.ClassFault.{ValueBad}
use Rattle.class_faults.specs.NotedFaults.{TellsFirstFault as TellsFirstClassFault}
use Rattle.template_compile.specs.declared.refusal.Kind.{Kind}
use Rattle.template_compile.specs.declared.refusal.Kind.TheVariants as kinds
use Rattle.template_compile.specs.DocumentFaults.{IsClassFault, IsLabelFault, IsModuleFault}
use Rattle.template_compile.specs.DocumentFaults.IsClassFault.{bad_value, cyclic_class, empty_permitted, not_set_valued}
use Rattle.template_compile.specs.DocumentFaults.IsClassFault.{unequal_default}
use Rattle.template_compile.specs.DocumentFaults.IsLabelFault.{double_identifier, double_label, unknown_label}
use Rattle.template_compile.specs.DocumentFaults.IsLabelFault.{wrong_kind}
use Rattle.template_compile.specs.DocumentFaults.IsModuleFault.{ambiguous_tags, cyclic_type, unknown_module}
use Rattle.template_compile.specs.DocumentFaults.IsModuleFault.{unknown_type}
use Rattle.template_compile.specs.DocumentFaults.IsModuleFault.{unsupported}

-- ---- places in order: by document, then by token, then by the order of the faults of one token

data StandsNoLater (document token rank its_document its_token its_rank : ℕ) : Type 0 where
  earlier_document : document < its_document → StandsNoLater document token rank its_document its_token its_rank
  earlier_token : document ≡ its_document → token < its_token →
      StandsNoLater document token rank its_document its_token its_rank
  at_one_token : document ≡ its_document → token ≡ its_token → rank ≤ its_rank →
      StandsNoLater document token rank its_document its_token its_rank

-- two that stand no later than each other stand at one token
pub record AreOne (document token rank its_document its_token its_rank : ℕ) : Type 0 where
  pub documents : document ≡ its_document
  pub tokens : token ≡ its_token
  pub ranks : rank ≡ its_rank

both_ways : {d t r e u s : ℕ} → StandsNoLater d t r e u s → StandsNoLater e u s d t r → AreOne d t r e u s
both_ways (earlier_document p) (earlier_document q) = absurd (omega (arith, p, q))
both_ways (earlier_document p) (earlier_token q y) = absurd (omega (arith, p, q))
both_ways (earlier_document p) (at_one_token q y z) = absurd (omega (arith, p, q))
both_ways (earlier_token p x) (earlier_document q) = absurd (omega (arith, p, q))
both_ways (earlier_token p x) (earlier_token q y) = absurd (omega (arith, x, y))
both_ways (earlier_token p x) (at_one_token q y z) = absurd (omega (arith, x, y))
both_ways (at_one_token p x o) (earlier_document q) = absurd (omega (arith, p, q))
both_ways (at_one_token p x o) (earlier_token q y) = absurd (omega (arith, x, y))
both_ways (at_one_token p x o) (at_one_token q y z) =
    record { documents = p; tokens = x; ranks = omega (arith, o, z) }

-- ---- modules

abbrev pub module_kind : ℕ → Kind
module_kind rank = get_or (kinds.UnknownType ∷ kinds.UnknownModule ∷ kinds.CyclicType ∷ kinds.Unsupported ∷
    kinds.Unsupported ∷ kinds.Unsupported ∷ kinds.Unsupported ∷ kinds.Unsupported ∷ []) rank kinds.AmbiguousTags

-- the first fault of modules stands at this place, and is told by this kind
pub record TellsModules (ms : List ModuleTerm) (document place : ℕ) (kind : Kind) : Type 0 where
  pub fault : FaultKind
  pub first : modules.IsFirstFault ms fault document place
  pub told : kind ≡ module_kind (modules.fault_rank fault)

unsupported_told : (what : UnsupportedKind) → kinds.Unsupported ≡ module_kind (unsupported_rank what)
unsupported_told TypeWord = refl
unsupported_told TooManyNodes = refl
unsupported_told TagNumber = refl
unsupported_told WideNumber = refl
unsupported_told MisplacedConstraint = refl

pub modules_told : {ms : List ModuleTerm} {refusal : ModuleRefusal} {document place : ℕ} {kind : Kind} →
    modules.TellsFirstFault ms refusal → IsModuleFault document place refusal kind →
    TellsModules ms document place kind
modules_told first unknown_type = record { fault = TypeUnknown; first = first; told = refl }
modules_told first unknown_module = record { fault = ModuleUnknown; first = first; told = refl }
modules_told first cyclic_type = record { fault = TypeCyclic; first = first; told = refl }
modules_told first (unsupported {what = what}) =
    record { fault = NotSupported what; first = first; told = unsupported_told what }
modules_told first ambiguous_tags = record { fault = TagsAmbiguous; first = first; told = refl }

module_later : {kind other : FaultKind} {document token its_document its_token : ℕ} →
    modules.IsNoLater kind document token other its_document its_token →
    StandsNoLater document token (modules.fault_rank kind) its_document its_token (modules.fault_rank other)
module_later (modules.earlier_document less) = earlier_document less
module_later (modules.earlier_token same less) = earlier_token same less
module_later (modules.at_one_token same at least) = at_one_token same at least

pub one_of_modules : {ms : List ModuleTerm} {kind other : FaultKind} {document token its_document its_token : ℕ} →
    modules.IsFirstFault ms kind document token → modules.IsFirstFault ms other its_document its_token →
    AreOne document token (modules.fault_rank kind) its_document its_token (modules.fault_rank other)
one_of_modules {kind = kind} {other = other} {document = d} {token = t} {its_document = e} {its_token = u} one two =
    both_ways (module_later (one.least other e u two.there)) (module_later (two.least kind d t one.there))

-- ---- references

abbrev pub label_kind : ℕ → Kind
label_kind rank =
    get_or (kinds.UnknownLabel ∷ kinds.WrongKind ∷ kinds.DoubleLabel ∷ []) rank kinds.DoubleIdentifier

pub record TellsLabels (parts : PartTerms) (document place : ℕ) (kind : Kind) : Type 0 where
  pub fault : LabelFault
  pub first : references.IsFirstFault parts fault document place
  pub told : kind ≡ label_kind (references.fault_rank fault)

pub labels_told : {parts : PartTerms} {refusal : LabelRefusal} {document place : ℕ} {kind : Kind} →
    references.TellsFirstFault parts refusal → IsLabelFault document place refusal kind →
    TellsLabels parts document place kind
labels_told first unknown_label = record { fault = LabelUnknown; first = first; told = refl }
labels_told first wrong_kind = record { fault = KindWrong; first = first; told = refl }
labels_told first double_label = record { fault = LabelDouble; first = first; told = refl }
labels_told first double_identifier = record { fault = IdentifierDouble; first = first; told = refl }

label_later : {kind other : LabelFault} {document token its_document its_token : ℕ} →
    references.IsNoLater kind document token other its_document its_token →
    StandsNoLater document token (references.fault_rank kind) its_document its_token (references.fault_rank other)
label_later (references.earlier_document less) = earlier_document less
label_later (references.earlier_token same less) = earlier_token same less
label_later (references.at_one_token same at least) = at_one_token same at least

pub one_of_labels : {parts : PartTerms} {kind other : LabelFault} {document token its_document its_token : ℕ} →
    references.IsFirstFault parts kind document token → references.IsFirstFault parts other its_document its_token →
    AreOne document token (references.fault_rank kind) its_document its_token (references.fault_rank other)
one_of_labels {kind = kind} {other = other} {document = d} {token = t} {its_document = e} {its_token = u} one two =
    both_ways (label_later (one.least other e u two.there)) (label_later (two.least kind d t one.there))

-- ---- classes

abbrev pub class_kind : ℕ → Kind
class_kind rank = get_or (kinds.CyclicClass ∷ kinds.UnequalDefault ∷ kinds.EmptyPermitted ∷ kinds.NotSetValued ∷ [])
    rank kinds.BadValue

pub record TellsClasses (ms : List ModuleTerm) (linked : Linked) (document place : ℕ) (kind : Kind) : Type 0 where
  pub fault : ClassFault
  pub first : classes.IsFirstFault ms linked fault document place
  pub told : kind ≡ class_kind (classes.fault_rank fault)

pub classes_told : {ms : List ModuleTerm} {linked : Linked} {refusal : ClassRefusal} {document place : ℕ}
    {kind : Kind} → TellsFirstClassFault ms linked refusal → IsClassFault document place refusal kind →
    TellsClasses ms linked document place kind
classes_told first cyclic_class = record { fault = ClassCyclic; first = first; told = refl }
classes_told first unequal_default = record { fault = DefaultUnequal; first = first; told = refl }
classes_told first empty_permitted = record { fault = PermittedEmpty; first = first; told = refl }
classes_told first not_set_valued = record { fault = SetMissing; first = first; told = refl }
classes_told first bad_value = record { fault = ValueBad; first = first; told = refl }

class_later : {kind other : ClassFault} {document token its_document its_token : ℕ} →
    classes.IsNoLater kind document token other its_document its_token →
    StandsNoLater document token (classes.fault_rank kind) its_document its_token (classes.fault_rank other)
class_later (classes.earlier_document less) = earlier_document less
class_later (classes.earlier_token same less) = earlier_token same less
class_later (classes.at_one_token same at least) = at_one_token same at least

pub one_of_classes : {ms : List ModuleTerm} {linked : Linked} {kind other : ClassFault}
    {document token its_document its_token : ℕ} → classes.IsFirstFault ms linked kind document token →
    classes.IsFirstFault ms linked other its_document its_token →
    AreOne document token (classes.fault_rank kind) its_document its_token (classes.fault_rank other)
one_of_classes {kind = kind} {other = other} {document = d} {token = t} {its_document = e} {its_token = u} one two =
    both_ways (class_later (one.least other e u two.there)) (class_later (two.least kind d t one.there))
