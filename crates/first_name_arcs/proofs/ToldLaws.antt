-- ToldLaws: the first names that definers are told to define first, and the arcs for which these stand.
use Rattle.std.proofs.Common.{◌≡◌, ◌∙◌, ◌⊎◌, ◌<◌, ◌≤◌, ◌∷◌, ◌++◌, [], ℕ, zero, suc, List, Bool, false, Option, None}
use Rattle.std.proofs.Common.{Some, refl, sym, ap, arith, inl, inr, length, subst, get_or}
use Rattle.std.specs.Prelude.{Contains, MatchOption, map, slice_get}
use Rattle.std.specs.declared.alloc.Global.{Global}
use Rattle.std.specs.declared.vec.Vec.{Vec}
use Rattle.std.proofs.lemmas.Bool.{cases_lt, false≢true}
use Rattle.std.proofs.lemmas.List.{map-append}
use Rattle.std.proofs.lemmas.List.Elements.{Contains-append_cases, Contains-append_left, Contains-append_right}
use Rattle.std.proofs.lemmas.Option.{none-some, same_Some}
use Rattle.token_grammar.specs.declared.token.Token.{Token}
use Rattle.asn1_syntax.specs.declared.module.Module.{Module}
use Rattle.asn1_names.specs.AssignmentNumbers.{Numbered, numbered_at}
use Rattle.asn1_names.specs.CodeMeanings.{IsAssignment}
use Rattle.asn1_names.specs.ModuleTerms.{AssignmentTerm}
use Rattle.asn1_names.specs.TermViews.{module_terms}
use Rattle.key_numbers.specs.NumberedLists.{IsList, Row}
use Rattle.linked_parts.specs.declared.linked.LinkedFirstName.{LinkedFirstName}
use Rattle.gdmo_first_names.specs.DefinedNames.{AreDefiners, DefinesFirstAt}
use Rattle.gdmo_first_names.specs.ReadModules.{HasModules}
use Rattle.gdmo_first_names.proofs.DefinedLaws.{defined_named, defined_number}
use Rattle.gdmo_first_names.proofs.NameSteps.{own_numbered}
use Rattle.gdmo_first_names.proofs.TextLaws.{read_terms}
use Rattle.gdmo_linking.specs.LinkedTables.{StandsForArcs, TellFirstNames}
use Rattle.gdmo_names.specs.BegunNames.{BeginsOne}
use Rattle.gdmo_names.specs.DoubleNames.{ValueHasArcs}
use Rattle.gdmo_names.specs.FirstNames.{DefinesNameFirst}
use Rattle.gdmo_names.specs.PartTerms.{PartTerms, arcs_at, module_terms_of}
use Rattle.gdmo_types.proofs.StepLaws.{contained_get, get_contained}
use Rattle.link_graphs.proofs.PlaceLaws.{IsPushed, get_push}
use Rattle.identifier_arcs.specs.KnownArcs.{TellsSaid}
use Rattle.first_name_arcs.specs.BegunFirst.{AreBegun, IsBegunAt}
use Rattle.first_name_arcs.specs.ToldNames.{StandsAt, TellNames, TellsFew, TellsName, told_if, told_name}
use Rattle.first_name_arcs.proofs.BegunLaws.{HasList, arcs_told, value_said}
use Rattle.first_name_arcs.proofs.UnequalLaws.{defines_at, one_name_first, one_place, value_one}

-- ---- few arcs

pub few_none : (parts : PartTerms) (row : Row) (x : Numbered) →
    TellsSaid parts row (arcs_at parts x.in_module x.place) None → TellsFew parts x None
few_none parts row x tells = λ arcs has few. arcs_told parts row x.in_module x.place None arcs tells has refl

pub few_told : (parts : PartTerms) (modules : List Module) (row : Row) (number : ℕ) (x : Numbered) (list : ℕ) →
    HasModules parts modules → numbered_at (module_terms_of parts) number ≡ Some x →
    TellsSaid parts row (arcs_at parts x.in_module x.place) (Some list) → (told : Option (Vec ℕ Global)) →
    ((xs : List ℕ) → IsList row list xs → MatchOption told (64 < length xs)
    (λ numbers. (numbers.items ≡ xs) × (length xs ≤ 64))) → TellsFew parts x told
few_told parts modules row number x list has at tells told is =
    let l = value_said parts modules row number x list has at tells in by l told (is l.arcs l.list)
  where
    by : (l : HasList parts row x.in_module x.place list) (told : Option (Vec ℕ Global)) →
        MatchOption told (64 < length l.arcs) (λ numbers. (numbers.items ≡ l.arcs) × (length l.arcs ≤ 64)) →
        TellsFew parts x told
    by l None long = λ arcs stands few.
        let same = ap length (value_one parts x.in_module x.place arcs l.arcs stands l.has) in
        omega (arith, long, few, same)
    by l (Some numbers) h = (
      subst (ValueHasArcs parts x.in_module x.place) (sym h.0) l.has,
      (let same = ap length h.0 in let few = h.1 in omega (arith, same, few)),
    )

-- ---- one name

-- a name is first defined at one place
one_first_place : (parts : PartTerms) (name : List ℕ) (m i v j : ℕ) → DefinesNameFirst parts name m i →
    DefinesNameFirst parts name v j → (m ≡ v) × (i ≡ j)
one_first_place parts name m i v j one other = by (cases_lt m v) (cases_lt v m)
  where
    by : (m < v) ⊎ (v ≤ m) → (v < m) ⊎ (m ≤ v) → (m ≡ v) × (i ≡ j)
    by (inl less) further = absurd (other.first m i less one.defines)
    by (inr more) (inl less) = absurd (one.first v j less other.defines)
    by (inr more) (inr most) =
        let same : m ≡ v = omega (arith, more, most) in
        (same, one_place parts name m i v j one.defines other.defines same)

-- the arcs for which a name stands are those of the assignment that is the first to define it
stands_at_value : (parts : PartTerms) (number : ℕ) (name arcs : List ℕ) (b : IsBegunAt parts number) →
    StandsAt parts number name arcs →
    ValueHasArcs parts b.defines.numbered.in_module b.defines.numbered.place arcs × (length arcs ≤ 64)
stands_at_value parts number name arcs b s =
    let x = s.defines.numbered in
    let same : x ≡ b.defines.numbered = same_Some x b.defines.numbered (sym s.defines.at ∙ b.defines.at) in
    let place = one_first_place parts name s.stands.m s.stands.i x.in_module x.place s.stands.defines s.defines.defines in (
      subst (λ (y : Numbered). ValueHasArcs parts y.in_module y.place arcs) same
          (subst (λ v. ValueHasArcs parts v x.place arcs) place.0
          (subst (λ v. ValueHasArcs parts s.stands.m v arcs) place.1 s.stands.has)),
      s.stands.few,
    )

pub name_told : (parts : PartTerms) (modules : List Module) (number home : ℕ) (a : AssignmentTerm) (name : Token) →
    HasModules parts modules → IsAssignment (module_terms modules) number home a → a.name ≡ name →
    (b : IsBegunAt parts number) → (few : Option (Vec ℕ Global)) → TellsFew parts b.defines.numbered few →
    (told : Option LinkedFirstName) →
    MatchOption told (few ≡ None) (λ x. (x.name ≡ name) × (few ≡ Some x.arcs)) → TellsName parts number told
name_told parts modules number home a name has is is_named b few tells None none = λ key arcs s.
    let v = stands_at_value parts number key arcs b s in
    subst (TellsFew parts b.defines.numbered) none tells arcs v.0 v.1
name_told parts modules number home a name has is is_named b few tells (Some x) some =
    let own = subst (TellsFew parts b.defines.numbered) some.1 tells in
    let d = defines_at parts b.name number b.defines in
    let same : b.name ≡ x.name.text = sym (defined_named parts b.name number d) ∙
    ap (λ (y : AssignmentTerm). y.name.text) (own_numbered parts modules number home a has is d.numbered d.at).1 ∙
    ap (λ (t : Token). t.text) (is_named ∙ sym some.0) in
    let f = subst (λ n. DefinesFirstAt parts n number) same b.defines in record {
      defines = f;
      stands = record {
        begins = subst (BeginsOne parts) same b.begins;
        no_root = f.no_root;
        m = b.defines.numbered.in_module;
        i = b.defines.numbered.place;
        defines = subst (λ n. DefinesNameFirst parts n b.defines.numbered.in_module b.defines.numbered.place) same
            b.defines.defines;
        has = own.0;
        few = own.1;
      };
    }

-- nothing begins with the name
pub unmarked_name : (parts : PartTerms) (begun : List Bool) (number : ℕ) → AreBegun parts begun →
    get_or begun number false ≡ false → TellsName parts number None
unmarked_name parts begun number are unmarked = λ name arcs s.
    false≢true (sym unmarked ∙ (are number).1
    (record { name = name; defines = s.defines; begins = s.stands.begins }))

-- no assignment has the number
pub absent_name : (parts : PartTerms) (modules : List Module) (number : ℕ) → HasModules parts modules →
    numbered_at (module_terms modules) number ≡ None → TellsName parts number None
absent_name parts modules number has none = λ name arcs s. none-some s.defines.numbered
    (sym none ∙ ap (λ ms. numbered_at ms number) (sym (read_terms parts modules has)) ∙ s.defines.at)

-- ---- all names

pub no_names : (parts : PartTerms) → TellNames parts [] []
no_names parts = record {
  right = λ name arcs there. absurd (let found = contained_get [] (name, arcs) there in none-some (name, arcs) found.1);
  all = λ name arcs k number at s. absurd (none-some number at);
}

module _ (parts : PartTerms) (numbers : List ℕ) (number : ℕ) (names : List LinkedFirstName)
    (before : TellNames parts numbers names) where
  abbrev Pairs : Option LinkedFirstName → List (List ℕ × List ℕ)
  Pairs name = map told_name names ++ map told_name (told_if name)

  pair_stands : (name : Option LinkedFirstName) → TellsName parts number name → (key arcs : List ℕ) →
      Contains (map told_name (told_if name)) (key, arcs) → StandsForArcs parts key arcs
  pair_stands None tells key arcs there =
      absurd (let found = contained_get [] (key, arcs) there in none-some (key, arcs) found.1)
  pair_stands (Some x) tells key arcs there = by (contained_get (told_name x ∷ []) (key, arcs) there)
    where
      by : (k : ℕ) × (slice_get (told_name x ∷ []) k ≡ Some (key, arcs)) → StandsForArcs parts key arcs
      by (zero, at) = let same = same_Some (told_name x) (key, arcs) at in
          subst (λ (p : List ℕ × List ℕ). StandsForArcs parts p.0 p.1) same tells.stands
      by (suc k, at) = absurd (none-some (key, arcs) at)

  right_by : (name : Option LinkedFirstName) → TellsName parts number name → (key arcs : List ℕ) →
      Contains (Pairs name) (key, arcs) → StandsForArcs parts key arcs
  right_by name tells key arcs there = by (Contains-append_cases (map told_name names) (map told_name (told_if name))
      (key, arcs) there)
    where
      by : Contains (map told_name names) (key, arcs) ⊎ Contains (map told_name (told_if name)) (key, arcs) →
          StandsForArcs parts key arcs
      by (inl first) = before.right key arcs first
      by (inr last) = pair_stands name tells key arcs last

  last_there : (name : Option LinkedFirstName) → TellsName parts number name → (key arcs : List ℕ) →
      StandsAt parts number key arcs → Contains (Pairs name) (key, arcs)
  last_there None tells key arcs s = absurd (tells key arcs s)
  last_there (Some x) tells key arcs s =
      let named : x.name.text ≡ key = one_name_first parts x.name.text key number tells.defines s.defines in
      let b : IsBegunAt parts number = record { name = key; defines = s.defines; begins = s.stands.begins } in
      let own = stands_at_value parts number key arcs b s in
      let its = stands_at_value parts number x.name.text x.arcs.items b tells in
      let same = value_one parts s.defines.numbered.in_module s.defines.numbered.place x.arcs.items arcs its.0 own.0 in
      subst (Contains (Pairs (Some x))) (λ i. (named i, same i))
      (Contains-append_right (map told_name names) (told_name x ∷ []) (told_name x)
      (get_contained (told_name x ∷ []) 0 (told_name x) refl))

  pub names_more : (name : Option LinkedFirstName) → TellsName parts number name →
      TellNames parts (numbers ++ number ∷ []) (names ++ told_if name)
  names_more name tells = record {
    right = λ key arcs there. right_by name tells key arcs
        (subst (λ xs. Contains xs (key, arcs)) (map-append told_name names (told_if name)) there);
    all = λ key arcs k n at s. subst (λ xs. Contains xs (key, arcs)) (sym (map-append told_name names (told_if name)))
        (by key arcs k n s (get_push numbers number k n at));
  }
    where
      by : (key arcs : List ℕ) (k n : ℕ) → StandsAt parts n key arcs → IsPushed numbers number k n →
          Contains (Pairs name) (key, arcs)
      by key arcs k n s (inl at) = Contains-append_left (map told_name names) (map told_name (told_if name)) (key, arcs)
          (before.all key arcs k n at s)
      by key arcs k n s (inr end) =
          last_there name tells key arcs (subst (λ m. StandsAt parts m key arcs) (sym end.1) s)

pub all_told : (parts : PartTerms) (numbers : List ℕ) (names : List LinkedFirstName) → AreDefiners parts numbers →
    TellNames parts numbers names → TellFirstNames parts (map told_name names)
all_told parts numbers names are told = record {
  right = told.right;
  all = λ name arcs s.
      let found = defined_number parts name s.m s.i s.no_root s.defines.defines in
      let d = found.1 in
      let first : DefinesFirstAt parts name found.0 = record {
        numbered = d.numbered;
        at = d.at;
        no_root = d.no_root;
        defines = subst (λ v. DefinesNameFirst parts name v d.numbered.place) (sym found.2)
            (subst (DefinesNameFirst parts name s.m) (sym found.3) s.defines);
      } in
      let place = are.all name found.0 d in
      told.all name arcs place.0 found.0 place.1 (record { defines = first; stands = s });
}
