-- DoubleNames: two templates of one label, two modules of one name, a name that a module assigns twice, a first name
-- to which two modules give unequal values, and two templates of one identifier; each of the token of the later one
-- (X.722, section 8.2; X.680, section 13; docs/PROFILE.md, section 12). CMIP-1 is a module before all documents.
use Rattle.std.specs.Prelude.{◌≡◌, ◌≢◌, ◌<◌, ◌==◌, ◌&&◌, ◌||◌, ℕ, Bool, List, true, None, Some, Contains, nat_lt}
use Rattle.std.specs.Prelude.{slice_get}
use Rattle.token_grammar.specs.declared.token.Token.{Token}
use Rattle.asn1_names.specs.ModuleTerms.{AssignmentTerm, ModuleTerm}
use Rattle.asn1_names.specs.NameMeaning.{is_called}
use Rattle.asn1_names.specs.StandardModule.{standard_module_name}
use Rattle.gdmo_names.specs.BegunNames.{BeginsOne}
use Rattle.gdmo_names.specs.DocumentTemplates.{templates}
use Rattle.gdmo_names.specs.FirstNames.{DefinesName, HasArcs, IsIdentifier, Registers, root_arc}
use Rattle.gdmo_names.specs.LabelMeaning.{stands_before}
use Rattle.gdmo_names.specs.PartTerms.{Placed, PartTerms, module_terms_of, arcs_at, label_of}
use Rattle.gdmo_names.specs.TemplateTerms.{IdentifierTerm}

-- an earlier template has the label
pub record IsLabelledAgain (parts : PartTerms) (later : Placed) : Type 0 where
  pub stands : Contains (templates parts) later
  pub first : Placed
  pub first_stands : Contains (templates parts) first
  pub before : stands_before first later ≡ true
  pub same : is_called (label_of first.template).text (label_of later.template) ≡ true

-- an earlier module, or CMIP-1, has the name of the one at the place m
pub data IsModuleAgain (ms : List ModuleTerm) (m : ℕ) (name : Token) : Type 0 where
  standard : is_called standard_module_name name ≡ true → IsModuleAgain ms m name
  earlier : (k : ℕ) {x : ModuleTerm} → k < m → slice_get ms k ≡ Some x → is_called x.name.text name ≡ true →
      IsModuleAgain ms m name

-- an earlier assignment of the module has the name of the one at the place i
pub record IsAssignedAgain (assignments : List AssignmentTerm) (i : ℕ) (name : Token) : Type 0 where
  pub k : ℕ
  pub before : k < i
  pub first : AssignmentTerm
  pub is_first : slice_get assignments k ≡ Some first
  pub same : is_called first.name.text name ≡ true

-- the value at the place i of the module at the place m has these arcs
pub record ValueHasArcs (parts : PartTerms) (m i : ℕ) (arcs : List ℕ) : Type 0 where
  pub text : IdentifierTerm
  pub reads : arcs_at parts m i ≡ Some (Some text)
  pub has : HasArcs parts text arcs

-- an earlier module gives a name, with which some identifier begins, other arcs than the module at the place m
pub record IsUnequalAgain (parts : PartTerms) (m i : ℕ) (name : List ℕ) : Type 0 where
  pub begins : BeginsOne parts name
  pub no_root : root_arc name ≡ None
  pub defines : DefinesName parts name m i
  pub k : ℕ
  pub j : ℕ
  pub before : k < m
  pub first_defines : DefinesName parts name k j
  pub arcs : List ℕ
  pub has : ValueHasArcs parts m i arcs
  pub first_arcs : List ℕ
  pub first_has : ValueHasArcs parts k j first_arcs
  pub unequal : arcs ≢ first_arcs

pub data DoubleLabelAt (parts : PartTerms) (document at : ℕ) : Type 0 where
  template_label : {later : Placed} → IsLabelledAgain parts later → later.document ≡ document →
      (label_of later.template).at ≡ at → DoubleLabelAt parts document at
  module_name : (m : ℕ) {x : ModuleTerm} → slice_get (module_terms_of parts) m ≡ Some x →
      IsModuleAgain (module_terms_of parts) m x.name → x.document ≡ document → x.name.at ≡ at →
      DoubleLabelAt parts document at
  assigned_name : (m i : ℕ) {x : ModuleTerm} {assignment : AssignmentTerm} →
      slice_get (module_terms_of parts) m ≡ Some x → slice_get x.assignments i ≡ Some assignment →
      IsAssignedAgain x.assignments i assignment.name → x.document ≡ document → assignment.name.at ≡ at →
      DoubleLabelAt parts document at
  first_name : (m i : ℕ) {x : ModuleTerm} {assignment : AssignmentTerm} →
      slice_get (module_terms_of parts) m ≡ Some x → slice_get x.assignments i ≡ Some assignment →
      IsUnequalAgain parts m i assignment.name.text → x.document ≡ document → assignment.name.at ≡ at →
      DoubleLabelAt parts document at

-- the registration of the one stands before that of the other: by the number of the document, and then by the place of
-- its brace. A template in line has the later label and the earlier registration.
abbrev pub stands_earlier : Placed → IdentifierTerm → Placed → IdentifierTerm → Bool
stands_earlier one first other second =
    nat_lt one.document other.document
    || one.document == other.document && nat_lt first.brace.at second.brace.at

-- an earlier template, of any kind, is registered under the same arcs; the token is the brace of the later identifier
pub record DoubleIdentifierAt (parts : PartTerms) (document at : ℕ) : Type 0 where
  pub later : Placed
  pub identifier : IdentifierTerm
  pub registers : Registers parts later identifier
  pub first : Placed
  pub first_identifier : IdentifierTerm
  pub first_registers : Registers parts first first_identifier
  pub before : stands_earlier first first_identifier later identifier ≡ true
  pub arcs : List ℕ
  pub is : IsIdentifier parts identifier arcs
  pub first_is : IsIdentifier parts first_identifier arcs
  pub is_in : later.document ≡ document
  pub is_brace : identifier.brace.at ≡ at
