-- Examples, computed: words and values that packages state, and what is held of them; X.722, section 8.4, and
-- docs/PROFILE.md, section 18.
use Rattle.std.proofs.Common.{◌≡◌, ◌∷◌, ℕ, false, true, List, [], None, Some, refl}
use Rattle.std.specs.Prelude.{codes}
use Rattle.token_grammar.specs.declared.token.Token.{Token}
use Rattle.term_values.specs.Syntaxes.{TypeSyntax}
use Rattle.term_values.specs.Syntaxes.TypeSyntax.{Integer, SetOf, Tagged}
use Rattle.term_values.specs.Fits.{Fits}
use Rattle.term_values.specs.Tag.{context}
use Rattle.term_values.specs.Typed.{TypedValue}
use Rattle.asn1_names.specs.ModuleTerms.{ModuleTerm}
use Rattle.asn1_names.specs.declared.name_tables.Meaning.TheVariants.{TypeAt, ValueAt}
use Rattle.linked_parts.specs.declared.linked.Linked.{Linked}
use Rattle.linked_parts.specs.declared.linked.LinkedName.{LinkedName}
use Rattle.linked_parts.specs.declared.linked.LinkedUse.{LinkedUse}
use Rattle.class_faults.specs.FirstClassFault.{ClassFault}
use Rattle.class_faults.specs.FirstClassFault.ClassFault.{SetMissing, ValueBad}
use Rattle.class_faults.specs.StatedProperties.{HasValue}
use Rattle.joined_statements.specs.JoinedStatements.{Values}
use Rattle.joined_statements.specs.declared.held.Held.TheVariants.{Nothing, One, Unequal}
use Rattle.joined_properties.specs.declared.statement.Statement.{Statement}
use Rattle.linked_types.specs.declared.type_table.TypeTable.{TypeTable}
use Rattle.package_statements.specs.NamedValues.{number_of}
use Rattle.package_statements.specs.PackageStatements.{IsStatementOf, TellsHeld}
use Rattle.package_statements.specs.UseFaults.{ValueFaults, WordFaults}

abbrev word : List ℕ → ℕ → Token
word text at = record { kind = 0; at = at; text = text }

-- the name of a value is told by the number of its assignment, that of a type by none
value_numbered : number_of (ValueAt 4) ≡ Some 4
value_numbered = refl

type_unnumbered : number_of (TypeAt 4) ≡ None
type_unnumbered = refl

-- a package without DEFAULT VALUE holds nothing, and one with it never two unequal values
nothing_held : (ms : List ModuleTerm) (linked : Linked) (values : Values) → TellsHeld ms linked values None Nothing
nothing_held ms linked values = tt

never_unequal : (ms : List ModuleTerm) (linked : Linked) (values : Values) (name : LinkedName) →
    ¬ TellsHeld ms linked values (Some name) Unequal
never_unequal ms linked values name told = told

-- DEFAULT VALUE with the name of a value is held by the number of its assignment
default_held : (ms : List ModuleTerm) (linked : Linked) (name : LinkedName) (value : TypedValue) →
    HasValue ms linked name value → TellsHeld ms linked (None ∷ Some value ∷ []) (Some name) (One 1)
default_held ms linked name value has = (value, refl, has)

-- what is stated by "counter GET-REPLACE ADD" of the attribute at the place 3
abbrev stated : LinkedUse
stated = record {
  attribute = 3;
  token = word (codes "counter") 7;
  default_value = None;
  initial_value = None;
  permitted = None;
  required = None;
  get = true;
  replace = true;
  add = Some (word (codes "ADD") 40);
  remove = None;
  set_to_default = false;
}

abbrev kept : Statement
kept = record {
  attribute = 3;
  joined = record {
    get = true;
    replace = true;
    add = true;
    remove = false;
    set_to_default = false;
    default = Nothing;
    initial = Nothing;
    permitted = record { keys = [] };
    required = record { keys = [] };
  };
}

is_statement : (ms : List ModuleTerm) (linked : Linked) (table : TypeTable) (values : Values) →
    IsStatementOf ms linked table values stated kept
is_statement ms linked table values = record {
  attribute = refl;
  gets = refl;
  replaces = refl;
  adds = refl;
  removes = refl;
  sets_default = refl;
  default_ = tt;
  initial_ = tt;
  permitted = λ place. refl;
  required = λ place. refl;
}

-- the name of an assignment that isn't there holds no number
no_number : (ms : List ModuleTerm) (linked : Linked) (name : LinkedName) → ¬ TellsHeld ms linked [] (Some name) (One 4)
no_number ms linked name told = apart told.1
  where
    apart : {X : Type 0} {x : X} → None ≡ Some x → ⊥
    apart e = absurd (cc)

-- ADD of a whole number is a fault at the word; of a SET OF, under any tags, it is none
add_to_integer : WordFaults (Integer [] []) 2 (Some (word (codes "ADD") 40)) SetMissing 2 40
add_to_integer = (word (codes "ADD") 40, refl, ((λ set. absurd (cc)), refl, refl, refl))

abbrev tagged_set : TypeSyntax
tagged_set = Tagged (context 1) true (SetOf (Integer [] []) [])

add_to_set : (kind : ClassFault) (document at : ℕ) →
    ¬ WordFaults tagged_set 2 (Some (word (codes "ADD") 40)) kind document at
add_to_set kind document at fault = fault.2.0 (Integer [] [], ([], refl))

-- a value that doesn't fit is a fault at its name
misfit_at_name : (ms : List ModuleTerm) (linked : Linked) (syntax : TypeSyntax) (name : LinkedName)
    (value : TypedValue) → HasValue ms linked name value → ¬ Fits syntax value →
    ValueFaults ms linked syntax 2 (Some name) ValueBad 2 name.name.at
misfit_at_name ms linked syntax name value has misfit = (name, refl, (value, has, (misfit, refl, refl, refl)))

-- where no word and no name stands nothing is wrong
no_word : (syntax : TypeSyntax) (kind : ClassFault) (document at : ℕ) → ¬ WordFaults syntax 2 None kind document at
no_word syntax kind document at fault = apart fault.1
  where
    apart : {X : Type 0} {x : X} → None ≡ Some x → ⊥
    apart e = absurd (cc)

no_value : (ms : List ModuleTerm) (linked : Linked) (syntax : TypeSyntax) (document at : ℕ) →
    ¬ ValueFaults ms linked syntax 2 None ValueBad document at
no_value ms linked syntax document at fault = apart fault.1
  where
    apart : {X : Type 0} {x : X} → None ≡ Some x → ⊥
    apart e = absurd (cc)
