-- NameSteps: what tables of names tell once a further assignment was told.
use Rattle.std.proofs.Common.{◌≡◌, ◌∙◌, ◌+◌, ◌<◌, ◌∷◌, ◌++◌, [], ℕ, List, Bool, true, false, Option, None, Some, refl}
use Rattle.std.proofs.Common.{sym, ap, arith}
use Rattle.std.specs.Prelude.{◌↔◌, ◌==◌, ◌&&◌, is_none, if◌then◌else◌}
use Rattle.std.specs.Borrow.{Bor}
use Rattle.std.specs.Cmp.Lexicographic.{pointwise}
use Rattle.std.specs.Map.{lookup}
use Rattle.indexmap.specs.IndexMap.{IndexMap}
use Rattle.std.proofs.Math.Path.{subst}
use Rattle.std.proofs.lemmas.Bool.{eq-eqb, eqb-true, false≢true}
use Rattle.std.proofs.lemmas.Option.{none-some, same_Some}
use Rattle.token_grammar.specs.Form.{Tree}
use Rattle.asn1_syntax.specs.declared.module.Module.{Module}
use Rattle.asn1_names.specs.AssignmentNumbers.{Numbered, assignment_count, numbered_at}
use Rattle.asn1_names.specs.CodeMeanings.{IsAssignment, IsTypeNumber, IsTypeOf, IsValueNumber}
use Rattle.asn1_names.specs.FirstNames.{first_of, found}
use Rattle.asn1_names.specs.ModuleTerms.{AssignmentTerm, ModuleTerm, NumberTerm, TypeTerm}
use Rattle.asn1_names.specs.NameMeaning.{Meaning, assigned_in}
use Rattle.asn1_names.specs.NameMeaning.Meaning.{TypeAt, ValueAt, StandardType, Nothing}
use Rattle.asn1_names.specs.Occurrences.{type_assigned}
use Rattle.asn1_names.specs.StandardModule.{is_same_name}
use Rattle.asn1_names.specs.TermViews.{module_terms}
use Rattle.asn1_names.proofs.FirstLaws.{first_none}
use Rattle.asn1_numbers.proofs.StandingLaws.{number_within, one_number_at}
use Rattle.gdmo_first_names.proofs.DefinedLaws.{defined_named, defined_told, definers_past, definers_step, definers_told}
use Rattle.gdmo_first_names.proofs.DefinedLaws.{first_past, first_step}
use Rattle.gdmo_first_names.proofs.OwnLaws.{own_value}
use Rattle.gdmo_first_names.proofs.TextLaws.{read_terms}
use Rattle.gdmo_first_names.specs.DefinedNames.{AreAssignedNames, AreDefinersBelow, AreNamesBelow, AssignsName, DefinesAt}
use Rattle.gdmo_first_names.specs.DefinedNames.{TellsAssigned, TellsFirstBelow, if_so, more_if}
use Rattle.gdmo_first_names.specs.ReadModules.{HasModules}
use Rattle.gdmo_first_names.specs.declared.assigned_names.AssignedNames.{AssignedNames}
use Rattle.gdmo_names.specs.FirstNames.{IsIdentifierType, root_arc}
use Rattle.gdmo_names.specs.PartTerms.{PartTerms, module_terms_of}

-- the assignment with a number, by what the code tells of it
pub own_numbered : (parts : PartTerms) (modules : List Module) (n m : ℕ) (a : AssignmentTerm) →
    HasModules parts modules → IsAssignment (module_terms modules) n m a → (x : Numbered) →
    numbered_at (module_terms_of parts) n ≡ Some x → (x.in_module ≡ m) × (x.assignment ≡ a)
own_numbered parts modules n m a has is x at =
    let same : is.numbered ≡ x = same_Some is.numbered x (sym is.at
    ∙ ap (λ ms. numbered_at ms n) (sym (read_terms parts modules has)) ∙ at) in (
      ap (λ (y : Numbered). y.in_module) (sym same) ∙ is.module_is,
      ap (λ (y : Numbered). y.assignment) (sym same) ∙ is.is,
    )

pub numbered_read : (parts : PartTerms) (modules : List Module) (n m : ℕ) (a : AssignmentTerm) →
    HasModules parts modules → (is : IsAssignment (module_terms modules) n m a) →
    numbered_at (module_terms_of parts) n ≡ Some is.numbered
numbered_read parts modules n m a has is = ap (λ ms. numbered_at ms n) (read_terms parts modules has) ∙ is.at

pub own_name : (parts : PartTerms) (modules : List Module) (n m : ℕ) (a : AssignmentTerm) (key : List ℕ) →
    HasModules parts modules → IsAssignment (module_terms modules) n m a → a.name.text ≡ key → (x : Numbered) →
    numbered_at (module_terms_of parts) n ≡ Some x → x.assignment.name.text ≡ key
own_name parts modules n m a key has is named x at =
    ap (λ (y : AssignmentTerm). y.name.text) (own_numbered parts modules n m a has is x at).1 ∙ named

-- ---- names that are assigned

pub names_kept : (parts : PartTerms) (modules : List Module) (n m : ℕ) (a : AssignmentTerm) (key : List ℕ) →
    HasModules parts modules → IsAssignment (module_terms modules) n m a → a.name.text ≡ key →
    (before after : List ℕ → Option ℕ) → ((name : List ℕ) → after name ≡
    first_of (before name) (if is_same_name key name then Some n else None)) →
    ((name : List ℕ) → TellsFirstBelow (AssignsName parts name) n (before name)) →
    (name : List ℕ) → TellsFirstBelow (AssignsName parts name) (n + 1) (after name)
names_kept parts modules n m a key has is named before after updated tells name =
    subst (TellsFirstBelow (AssignsName parts name) (n + 1)) (sym (updated name))
    (first_step (AssignsName parts) n key
    (λ text h. sym h.named ∙ own_name parts modules n m a key has is named h.numbered h.at)
    (let at = numbered_read parts modules n m a has is in record {
      numbered = is.numbered;
      at = at;
      named = own_name parts modules n m a key has is named is.numbered at;
    }) name (before name) (tells name))

-- ---- names that are defined

one_defined : (parts : PartTerms) (modules : List Module) (n m : ℕ) (a : AssignmentTerm) (key : List ℕ) →
    HasModules parts modules → IsAssignment (module_terms modules) n m a → a.name.text ≡ key → (name : List ℕ) →
    DefinesAt parts name n → name ≡ key
one_defined parts modules n m a key has is named name d =
    sym (defined_named parts name n d) ∙ own_name parts modules n m a key has is named d.numbered d.at

pub definer_told : (parts : PartTerms) (modules : List Module) (n m : ℕ) (a : AssignmentTerm) (key : List ℕ)
    (before after : AssignedNames) → HasModules parts modules → IsAssignment (module_terms modules) n m a →
    a.name.text ≡ key → DefinesAt parts key n →
    ((name : List ℕ) → found after.names name ≡
    first_of (found before.names name) (if is_same_name key name then Some n else None)) →
    after.definers.items ≡ before.definers.items ++ n ∷ [] →
    ((name : List ℕ) → found after.defined name ≡
    first_of (found before.defined name) (if is_same_name key name then Some n else None)) →
    AreNamesBelow parts n before → AreNamesBelow parts (n + 1) after
definer_told parts modules n m a key before after has is named d names definers updated are = record {
  are_assigned =
      names_kept parts modules n m a key has is named (found before.names) (found after.names) names are.are_assigned;
  are_definers = definers_step parts n before.definers.items after.definers.items key d definers are.are_definers;
  are_defined = λ name. subst (TellsFirstBelow (DefinesAt parts name) (n + 1)) (sym (updated name))
      (first_step (DefinesAt parts) n key (one_defined parts modules n m a key has is named) d name
      (found before.defined name) (are.are_defined name));
}

pub other_told : (parts : PartTerms) (modules : List Module) (n m : ℕ) (a : AssignmentTerm) (key : List ℕ)
    (before after : AssignedNames) → HasModules parts modules → IsAssignment (module_terms modules) n m a →
    a.name.text ≡ key → ¬ DefinesAt parts key n →
    ((name : List ℕ) → found after.names name ≡
    first_of (found before.names name) (if is_same_name key name then Some n else None)) →
    after.definers.items ≡ before.definers.items →
    ((name : List ℕ) → found after.defined name ≡ found before.defined name) →
    AreNamesBelow parts n before → AreNamesBelow parts (n + 1) after
other_told parts modules n m a key before after has is named none names definers same are = record {
  are_assigned =
      names_kept parts modules n m a key has is named (found before.names) (found after.names) names are.are_assigned;
  are_definers = subst (AreDefinersBelow parts (n + 1)) (sym definers)
      (definers_past parts n before.definers.items undefined are.are_definers);
  are_defined = λ name. subst (TellsFirstBelow (DefinesAt parts name) (n + 1)) (sym (same name))
      (first_past (DefinesAt parts name) n (found before.defined name) (undefined name) (are.are_defined name));
}
  where
    undefined : (name : List ℕ) → ¬ DefinesAt parts name n
    undefined name d = none (subst (λ z. DefinesAt parts z n)
        (one_defined parts modules n m a key has is named name d) d)

-- a number that no assignment has
pub absent_told : (parts : PartTerms) (modules : List Module) (n : ℕ) (x : AssignedNames) → HasModules parts modules →
    numbered_at (module_terms modules) n ≡ None → AreNamesBelow parts n x → AreNamesBelow parts (n + 1) x
absent_told parts modules n x has absent are = record {
  are_assigned = λ name. first_past (AssignsName parts name) n (found x.names name)
      (λ h. nowhere h.numbered h.at) (are.are_assigned name);
  are_definers = definers_past parts n x.definers.items (λ name d. nowhere d.numbered d.at) are.are_definers;
  are_defined = λ name. first_past (DefinesAt parts name) n (found x.defined name)
      (λ d. nowhere d.numbered d.at) (are.are_defined name);
}
  where
    nowhere : (y : Numbered) → numbered_at (module_terms_of parts) n ≡ Some y → ⊥
    nowhere y at = none-some y (sym absent ∙ ap (λ ms. numbered_at ms n) (sym (read_terms parts modules has)) ∙ at)

-- all assignments
assigned_told : (parts : PartTerms) (name : List ℕ) (most : ℕ) (told : Option ℕ) →
    ((k : ℕ) → AssignsName parts name k → k < most) → TellsFirstBelow (AssignsName parts name) most told →
    TellsAssigned parts name told
assigned_told parts name most None all tells = λ k h. tells k (all k h) h
assigned_told parts name most (Some k) all tells = tells.0

pub all_told : (parts : PartTerms) (modules : List Module) (n : ℕ) (x : AssignedNames) → HasModules parts modules →
    n ≡ assignment_count (module_terms modules) → AreNamesBelow parts n x → AreAssignedNames parts x
all_told parts modules n x has count are = record {
  are_assigned = λ name. assigned_told parts name n (found x.names name) (λ k h. within k h.numbered h.at)
      (are.are_assigned name);
  are_definers = definers_told parts n x.definers.items (λ name k d. within k d.numbered d.at) are.are_definers;
  are_defined = λ name. defined_told parts name n (found x.defined name) (λ k d. within k d.numbered d.at)
      (are.are_defined name);
}
  where
    within : (k : ℕ) (y : Numbered) → numbered_at (module_terms_of parts) k ≡ Some y → k < n
    within k y at =
        let less = number_within (module_terms modules) k y
        (ap (λ ms. numbered_at ms k) (sym (read_terms parts modules has)) ∙ at) in omega (arith, less, count)

pub none_told : (parts : PartTerms) (x : AssignedNames) → x.definers.items ≡ [] →
    ((name : List ℕ) → found x.names name ≡ None) → ((name : List ℕ) → found x.defined name ≡ None) →
    AreNamesBelow parts 0 x
none_told parts x empty names defined = record {
  are_assigned = λ name. subst (TellsFirstBelow (AssignsName parts name) 0) (sym (names name))
      (λ k less h. omega (arith, less));
  are_definers = subst (AreDefinersBelow parts 0) (sym empty) (record {
    rise = λ j k one other less at there. absurd (none-some one at);
    below = λ k number at. absurd (none-some number at);
    right = λ k number at. absurd (none-some number at);
    all = λ name number less d. absurd (omega (arith, less));
  });
  are_defined = λ name. subst (TellsFirstBelow (DefinesAt parts name) 0) (sym (defined name))
      (λ k less h. omega (arith, less));
}

-- ---- whether an assignment defines its name

-- a value that is the first of its name in its module, and an OBJECT IDENTIFIER
pub defines_there : (parts : PartTerms) (modules : List Module) (n m : ℕ) (a : AssignmentTerm) (key : List ℕ) →
    HasModules parts modules → IsAssignment (module_terms modules) n m a → root_arc key ≡ None →
    (v : IsValueNumber (module_terms modules) n (assigned_in (module_terms modules) m key)) →
    ((w : ℕ) (of : TypeTerm) → IsTypeOf (module_terms modules) n w of → IsIdentifierType (module_terms modules) w of) →
    DefinesAt parts key n
defines_there parts modules n m a key has is no_root v identifier =
    let ms = module_terms modules in
    let same : is.numbered ≡ v.numbered = same_Some is.numbered v.numbered (sym is.at ∙ v.at) in
    let home : m ≡ v.numbered.in_module = sym is.module_is ∙ ap (λ (y : Numbered). y.in_module) same in
    let read = read_terms parts modules has in record {
      numbered = v.numbered;
      at = ap (λ ts. numbered_at ts n) read ∙ v.at;
      no_root = no_root;
      defines = record {
        of = v.of;
        number = v.stated;
        text = v.text;
        means = ap (λ ts. assigned_in ts v.numbered.in_module key) read
            ∙ ap (λ w. assigned_in ms w key) (sym home) ∙ v.is;
        is_identifier = subst (λ ts. IsIdentifierType ts v.numbered.in_module v.of) (sym read)
            (identifier v.numbered.in_module v.of (record {
              numbered = v.numbered;
              at = v.at;
              module_is = refl;
              is = ap type_assigned v.assigns;
            }));
      };
    }

-- and what defines its name is such
pub value_there : (parts : PartTerms) (modules : List Module) (n m : ℕ) (a : AssignmentTerm) (key : List ℕ) →
    HasModules parts modules → IsAssignment (module_terms modules) n m a → (d : DefinesAt parts key n) →
    IsValueNumber (module_terms modules) n (assigned_in (module_terms modules) m key)
value_there parts modules n m a key has is d =
    let ps = module_terms_of parts in
    let read = read_terms parts modules has in
    let own = (own_value ps d.numbered.in_module d.numbered.in_module d.numbered.place key d.defines.of
    d.defines.number d.defines.text d.defines.means).1 in
    let k : own.k ≡ n = one_number_at ps own.k n own.numbered d.numbered own.at d.at own.in_module own.place in
    let one : own.numbered ≡ d.numbered = same_Some own.numbered d.numbered (sym own.at ∙ ap (numbered_at ps) k ∙ d.at) in
    let home : d.numbered.in_module ≡ m = (own_numbered parts modules n m a has is d.numbered d.at).0 in record {
      numbered = d.numbered;
      at = ap (λ ts. numbered_at ts n) (sym read) ∙ d.at;
      of = d.defines.of;
      stated = d.defines.number;
      text = d.defines.text;
      assigns = sym (ap (λ (y : Numbered). y.assignment.assigned) one) ∙ own.assigns;
      is = ap (λ ts. assigned_in ts m key) (sym read) ∙ ap (λ w. assigned_in ps w key) (sym home) ∙ d.defines.means;
    }

pub type_there : (parts : PartTerms) (modules : List Module) (n m : ℕ) (a : AssignmentTerm) (key : List ℕ) →
    HasModules parts modules → IsAssignment (module_terms modules) n m a → (d : DefinesAt parts key n) →
    IsTypeOf (module_terms modules) n d.numbered.in_module d.defines.of
    × IsIdentifierType (module_terms modules) d.numbered.in_module d.defines.of
unfolding value_there
type_there parts modules n m a key has is d =
    let read = read_terms parts modules has in
    let v = value_there parts modules n m a key has is d in (
      record { numbered = d.numbered; at = v.at; module_is = refl; is = ap type_assigned v.assigns },
      subst (λ ts. IsIdentifierType ts d.numbered.in_module d.defines.of) read d.defines.is_identifier,
    )

-- the two tests of types and values
pub defines_by : (parts : PartTerms) (modules : List Module) (n m : ℕ) (a : AssignmentTerm) (key : List ℕ) (b : Bool) →
    HasModules parts modules → IsAssignment (module_terms modules) n m a → root_arc key ≡ None →
    IsValueNumber (module_terms modules) n (assigned_in (module_terms modules) m key) →
    ((w : ℕ) (of : TypeTerm) → IsTypeOf (module_terms modules) n w of →
    (b ≡ true) ↔ IsIdentifierType (module_terms modules) w of) → (b ≡ true) ↔ DefinesAt parts key n
defines_by parts modules n m a key b has is no_root v tells = (
  λ h. defines_there parts modules n m a key has is no_root v (λ w of type. (tells w of type).0 h),
  λ d. (let type = type_there parts modules n m a key has is d in
      (tells d.numbered.in_module d.defines.of type.0).1 type.1),
)

-- ---- the first value of a name

same_value : (meaning : Meaning) (m i v j : ℕ) (of its : TypeTerm) (n k : Option NumberTerm) (t s : Tree) →
    meaning ≡ ValueAt m i of n t → meaning ≡ ValueAt v j its k s → (m ≡ v) × (i ≡ j)
same_value meaning m i v j of its n k t s h g = (cc, cc)

pub value_first : (ms : List ModuleTerm) (first n : ℕ) (meaning : Meaning) → IsValueNumber ms first meaning →
    ((first == n) ≡ true) ↔ IsValueNumber ms n meaning
value_first ms first n meaning v = (
  λ h. subst (λ k. IsValueNumber ms k meaning) (eqb-true first n h) v,
  λ w. (let same = same_value meaning v.numbered.in_module v.numbered.place w.numbered.in_module w.numbered.place
      v.of w.of v.stated w.stated v.text w.text v.is w.is in
      eq-eqb first n (one_number_at ms first n v.numbered w.numbered v.at w.at same.0 same.1)),
)

no_value : {P : Type 0} (meaning : Meaning) (m i : ℕ) (of : TypeTerm) → meaning ≡ TypeAt m i of →
    (v j : ℕ) (its : TypeTerm) (k : Option NumberTerm) (s : Tree) → meaning ≡ ValueAt v j its k s → P
no_value meaning m i of h v j its k s g = absurd (cc)

pub type_first : (ms : List ModuleTerm) (first n : ℕ) (meaning : Meaning) → IsTypeNumber ms first meaning →
    (false ≡ true) ↔ IsValueNumber ms n meaning
type_first ms first n meaning t = (
  λ h. absurd (false≢true h),
  λ w. no_value meaning t.numbered.in_module t.numbered.place t.of t.is w.numbered.in_module w.numbered.place w.of
      w.stated w.text w.is,
)

pub standard_first : (ms : List ModuleTerm) (syntax : _) (n : ℕ) (meaning : Meaning) → meaning ≡ StandardType syntax →
    (false ≡ true) ↔ IsValueNumber ms n meaning
standard_first ms syntax n meaning is = (λ h. absurd (false≢true h), λ w. absurd (let other = w.is in cc))

pub nothing_first : (ms : List ModuleTerm) (n : ℕ) (meaning : Meaning) → meaning ≡ Nothing →
    (false ≡ true) ↔ IsValueNumber ms n meaning
nothing_first ms n meaning is = (λ h. absurd (false≢true h), λ w. absurd (let other = w.is in cc))

-- ---- the three tests

pub all_define : (parts : PartTerms) (modules : List Module) (n m : ℕ) (a : AssignmentTerm) (key : List ℕ)
    (x y z r : Bool) → HasModules parts modules → IsAssignment (module_terms modules) n m a →
    x ≡ is_none (root_arc key) →
    (y ≡ true) ↔ IsValueNumber (module_terms modules) n (assigned_in (module_terms modules) m key) →
    ((w : ℕ) (of : TypeTerm) → IsTypeOf (module_terms modules) n w of →
    (z ≡ true) ↔ IsIdentifierType (module_terms modules) w of) → r ≡ (x && (y && z)) →
    (r ≡ true) ↔ DefinesAt parts key n
all_define parts modules n m a key x y z r has is no_root value type together =
    subst (λ b. (b ≡ true) ↔ DefinesAt parts key n) (sym together) (by x y no_root value)
  where
    none_there : (o : Option ℕ) → true ≡ is_none o → o ≡ None
    none_there None h = refl
    none_there (Some arc) h = absurd (false≢true (sym h))

    some_there : (o : Option ℕ) → false ≡ is_none o → o ≡ None → ⊥
    some_there None h e = false≢true h
    some_there (Some arc) h e = none-some arc (sym e)

    by : (p q : Bool) → p ≡ is_none (root_arc key) →
        (q ≡ true) ↔ IsValueNumber (module_terms modules) n (assigned_in (module_terms modules) m key) →
        ((p && (q && z)) ≡ true) ↔ DefinesAt parts key n
    by true true none v =
        defines_by parts modules n m a key z has is (none_there (root_arc key) none) (v.0 refl) type
    by true false none v = (
      λ h. absurd (false≢true h),
      λ d. absurd (false≢true (v.1 (value_there parts modules n m a key has is d))),
    )
    by false q none v = (
      λ h. absurd (false≢true h),
      λ d. absurd (some_there (root_arc key) none d.no_root),
    )

-- ---- one more name

pub name_told : (parts : PartTerms) (modules : List Module) (n m : ℕ) (a : AssignmentTerm) (key : List ℕ) (b : Bool)
    (before after : AssignedNames) → HasModules parts modules → IsAssignment (module_terms modules) n m a →
    a.name.text ≡ key → (b ≡ true) ↔ DefinesAt parts key n →
    ((name : List ℕ) → found after.names name ≡
    first_of (found before.names name) (if is_same_name key name then Some n else None)) →
    after.definers.items ≡ more_if b before.definers.items n →
    ((name : List ℕ) → found after.defined name ≡ first_of (found before.defined name) (if_so b key n name)) →
    AreNamesBelow parts n before → AreNamesBelow parts (n + 1) after
name_told parts modules n m a key true before after has is named defines names definers updated are =
    definer_told parts modules n m a key before after has is named (defines.0 refl) names definers updated are
name_told parts modules n m a key false before after has is named defines names definers updated are =
    other_told parts modules n m a key before after has is named (λ d. false≢true (defines.1 d)) names definers
    (λ name. updated name ∙ first_none (found before.defined name)) are

-- ---- the beginning of the tables

found_none : {S : Type 0} (table : IndexMap (Bor (List ℕ)) ℕ S) → table.entries ≡ [] → (name : List ℕ) →
    found table name ≡ None
found_none table is name = ap (λ es. lookup (λ key. pointwise ◌==◌ name key.now) es) is

pub begun_told : (parts : PartTerms) (x : AssignedNames) → x.definers.items ≡ [] → x.names.entries ≡ [] →
    x.defined.entries ≡ [] → AreNamesBelow parts 0 x
begun_told parts x empty names defined =
    none_told parts x empty (found_none x.names names) (found_none x.defined defined)
