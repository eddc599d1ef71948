-- What is made from lists that were made before.
use Rattle.std.proofs.Common.{◌≡◌, ℕ, Bool, true, false, List, [], ◌∷◌, ◌++◌, Option, None, Some, Bor, cond}
use Rattle.std.proofs.Common.{refl, sym, ap, ◌∙◌, subst, true≢false}
use Rattle.std.specs.Prelude.{◌&&◌, IfSome, flat_map}
use Rattle.std.specs.BTreeMap.{BTreeMap, get, is_at}
use Rattle.std.specs.Cmp.Lexicographic.{slice_cmp}
use Rattle.std.specs.List.{list_all}
use Rattle.std.specs.Option.{is_some, option_copied, option_map_or}
use Rattle.std.specs.Map.{lookup}
use Rattle.std.specs.Ordering.{is_eq, nat_cmp}
use Rattle.std.proofs.lemmas.Map.Text.{is_eq-slice_cmp}
use Rattle.std.proofs.lemmas.Slice.Eq.{bytes_eq-Decides}
use Rattle.term_model.specs.Comparing.{is_same_oid}
use Rattle.term_model.specs.declared.schema.ClassRec.{ClassRec}
use Rattle.term_model.specs.declared.schema.Set.{Set}
use Rattle.term_model.specs.PresentPackages.{superclasses}
use Rattle.set_report.specs.declared.class_lists.ClassLists.{ClassLists}
use Rattle.set_report.specs.ClassLists.{inherited, listed_by}
use Rattle.set_report.specs.DoneLists.{AreDone, done_by, is_done}
use Rattle.set_report.specs.HasLists.{HasLists}
use Rattle.set_report.specs.Orders.{in_order}
use Rattle.set_report.proofs.InheritLaws.{inherits}

abbrev pub Table : Type 0
Table = BTreeMap (List ℕ) ClassLists

-- a list of the lists is what the class inherits
abbrev pub Gives : List ClassRec → (ClassLists → List (List ℕ)) → (ClassRec → List (List ℕ)) → Type 0
Gives records of_lists own =
    (class : List ℕ) (lists : ClassLists) → HasLists records class lists → of_lists lists ≡ inherited records own class

done_one : (records : List ClassRec) (table : Table) (of_lists : ClassLists → List (List ℕ))
    (own : ClassRec → List (List ℕ)) → AreDone records table → Gives records of_lists own → (class : List ℕ)
    → is_done table class ≡ true → done_by table of_lists class ≡ inherited records own class
done_one records table of_lists own done gives class there =
    by (get (slice_cmp nat_cmp) table class) refl there
  where
    by : (o : Option ClassLists) → get (slice_cmp nat_cmp) table class ≡ o → is_some o ≡ true
        → option_map_or of_lists o [] ≡ inherited records own class
    by None e h = absurd (true≢false (sym h))
    by (Some lists) e h = gives class lists (done class lists e)

both_true : (b c : Bool) → b && c ≡ true → (b ≡ true) × (c ≡ true)
both_true true c e = (refl, e)
both_true false c e = absurd (true≢false (sym e))

done_all : (records : List ClassRec) (table : Table) (of_lists : ClassLists → List (List ℕ))
    (own : ClassRec → List (List ℕ)) → AreDone records table → Gives records of_lists own
    → (classes : List (List ℕ)) → list_all (is_done table) classes ≡ true
    → flat_map (done_by table of_lists) classes ≡ flat_map (inherited records own) classes
done_all records table of_lists own done gives [] all = refl
done_all records table of_lists own done gives (class ∷ classes) all =
    let h = both_true (is_done table class) (list_all (is_done table) classes) all in
    ap (λ xs. xs ++ flat_map (done_by table of_lists) classes)
    (done_one records table of_lists own done gives class h.0)
    ∙ ap (λ xs. inherited records own class ++ xs) (done_all records table of_lists own done gives classes h.1)

-- some schema with these classes
abbrev schema_of : List ClassRec → Set
schema_of records = record {
  classes = records;
  attributes = [];
  groups = [];
  bindings = [];
  actions = [];
  notifications = [];
  rules = [];
  instances = [];
  system = [];
}

pub listed_is : (records : List ClassRec) (table : Table) (of_lists : ClassLists → List (List ℕ))
    (own : ClassRec → List (List ℕ)) (class : List ℕ) (supers : List (List ℕ)) → AreDone records table
    → Gives records of_lists own → list_all (is_done table) supers ≡ true → supers ≡ superclasses records class
    → in_order (listed_by records own class ++ flat_map (done_by table of_lists) supers)
    ≡ inherited records own class
listed_is records table of_lists own class supers done gives all are =
    ap (λ xs. in_order (listed_by records own class ++ xs)) (done_all records table of_lists own done gives supers all
    ∙ ap (flat_map (inherited records own)) are)
    ∙ inherits (schema_of records) own class

-- ---- the table

some_is : (a b : ClassLists) → Some a ≡ Some b → a ≡ b
some_is a b e = ap (λ (o : Option ClassLists). option_map_or (λ (x : ClassLists). x) o a) e

-- one more class has its lists
pub done_more : (records : List ClassRec) (before after : Table) (id : List ℕ) (lists : ClassLists)
    → AreDone records before → HasLists records id lists
    → ((q : List ℕ) → get (slice_cmp nat_cmp) after q ≡ cond (is_eq (slice_cmp nat_cmp id q)) (Some lists)
    (get (slice_cmp nat_cmp) before q))
    → AreDone records after
done_more records before after id lists done has updates class found h =
    by (is_same_oid id class) refl
    (sym (updates class ∙ ap (λ b. cond b (Some lists) (get (slice_cmp nat_cmp) before class))
    (is_eq-slice_cmp id class)) ∙ h)
  where
    by : (b : Bool) → is_same_oid id class ≡ b
        → cond b (Some lists) (get (slice_cmp nat_cmp) before class) ≡ Some found → HasLists records class found
    by true same e =
        subst (HasLists records class) (some_is lists found e)
        (subst (λ (c : List ℕ). HasLists records c lists) ((bytes_eq-Decides id class).0 same) has)
    by false other e = done class found e

-- no class has its lists
pub none_done : (records : List ClassRec) (table : Table) → table.entries ≡ [] → AreDone records table
none_done records table empty class lists h =
    absurd (none_some (sym (ap (lookup (is_at (slice_cmp nat_cmp class))) empty) ∙ h))
  where
    none_some : None ≡ Some lists → ⊥
    none_some e = absurd (cc e)

-- what is found in the table
pub found_has : (records : List ClassRec) (table : Table) (class : List ℕ) (o : Option (Bor ClassLists))
    → option_copied o ≡ get (slice_cmp nat_cmp) table class → AreDone records table
    → IfSome o (λ lists. HasLists records class lists.now)
found_has records table class None e done = tt
found_has records table class (Some lists) e done = done class lists.now (sym e)
