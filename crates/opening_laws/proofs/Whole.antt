-- In a whole schema the class with an identifier has one record.
use Rattle.std.proofs.Common.{◌≡◌, ℕ, zero, suc, ◌<◌, ◌≤◌, ◌⊎◌, true, false, List, [], ◌∷◌}
use Rattle.std.proofs.Common.{◌++◌, length, refl, sym, ap, ◌∙◌}
use Rattle.std.proofs.Common.{arith, inl, inr, leb, length-append, subst}
use Rattle.std.proofs.lemmas.Bool.Decides.{leb_tells}
use Rattle.std.specs.Prelude.{Contains, map, slice_index_or}
use Rattle.term_model.specs.declared.actions.ActRec.{ActRec}
use Rattle.term_model.specs.declared.actions.NoteRec.{NoteRec}
use Rattle.term_model.specs.declared.name_binding.BindRec.{BindRec}
use Rattle.term_model.specs.declared.schema.AttrRec.{AttrRec}
use Rattle.term_model.specs.declared.schema.ClassRec.{ClassRec}
use Rattle.term_model.specs.declared.schema.GroupRec.{GroupRec}
use Rattle.term_model.specs.WholeSet.{AreOnce}
use Rattle.opening_laws.specs.OpeningLaws.{WholeHasRecordOnce}

id_at : (classes : List ClassRec) (rest : List (List ℕ)) (k : ℕ) (one : ClassRec) (d : List ℕ) → k < length classes
    → slice_index_or classes k one ≡ one
    → slice_index_or (map (λ (of_class : ClassRec). of_class.id) classes ++ rest) k d ≡ one.id
id_at [] rest k one d h e = absurd (omega arith)
id_at (first ∷ others) rest zero one d h e = ap (λ (of_class : ClassRec). of_class.id) e
id_at (first ∷ others) rest (suc k) one d h e = id_at others rest k one d (omega arith) e

within : (classes : List ClassRec) (rest : List (List ℕ)) (k : ℕ) → k < length classes
    → k < length (map (λ (of_class : ClassRec). of_class.id) classes ++ rest)
within [] rest k h = absurd (omega arith)
within (first ∷ others) rest zero h = omega arith
within (first ∷ others) rest (suc k) h =
    let inside = within others rest k (omega arith) in
    omega (arith, inside)

same_at : (classes : List ClassRec) (k : ℕ) (one other : ClassRec) → k < length classes
    → slice_index_or classes k one ≡ one → slice_index_or classes k other ≡ other → one ≡ other
same_at [] k one other h e f = absurd (omega arith)
same_at (first ∷ others) zero one other h e f = sym e ∙ f
same_at (first ∷ others) (suc k) one other h e f = same_at others k one other (omega arith) e f

-- identifiers that stand once are those of one record
not_before : (classes : List ClassRec) (rest : List (List ℕ)) (i j : ℕ) (one other : ClassRec)
    → AreOnce (map (λ (of_class : ClassRec). of_class.id) classes ++ rest) → i < j → j < length classes
    → slice_index_or classes i one ≡ one → slice_index_or classes j other ≡ other → one.id ≡ other.id → ⊥
not_before classes rest i j one other once before inside e f same =
    once i j [] before (within classes rest j inside)
    (id_at classes rest i one [] (omega arith) e ∙ same ∙ sym (id_at classes rest j other [] inside f))

record_once : (classes : List ClassRec) (rest : List (List ℕ))
    → AreOnce (map (λ (of_class : ClassRec). of_class.id) classes ++ rest)
    → (first second : ClassRec) → Contains classes first → Contains classes second → first.id ≡ second.id
    → first ≡ second
record_once classes rest once first second (i, inside, e) (j, there, f) same =
    by_order (leb_tells i j) (leb_tells j i)
  where
    by_order : ((leb i j ≡ true) × (i ≤ j)) ⊎ ((leb i j ≡ false) × (j < i))
        → ((leb j i ≡ true) × (j ≤ i)) ⊎ ((leb j i ≡ false) × (i < j)) → first ≡ second
    by_order (inr (t, before)) second_way =
        absurd (not_before classes rest j i second first once before inside f e (sym same))
    by_order (inl (t, least)) (inr (u, before)) =
        absurd (not_before classes rest i j first second once before there e f same)
    by_order (inl (t, least)) (inl (u, most)) =
        let met : j ≡ i = omega (arith, least, most) in
        same_at classes i first second inside e (subst (λ k. slice_index_or classes k second ≡ second) met f)

-- what stands once in a list stands once in its front
at_front : (xs ys : List (List ℕ)) (k : ℕ) (d : List ℕ) → k < length xs
    → slice_index_or (xs ++ ys) k d ≡ slice_index_or xs k d
at_front [] ys k d h = absurd (omega arith)
at_front (x ∷ xs) ys zero d h = refl
at_front (x ∷ xs) ys (suc k) d h = at_front xs ys k d (omega arith)

front_once : (xs ys : List (List ℕ)) → AreOnce (xs ++ ys) → AreOnce xs
front_once xs ys once = λ i j d before inside same.
    once i j d before (omega (arith, length-append xs ys))
    (at_front xs ys i d (omega arith) ∙ same ∙ sym (at_front xs ys j d inside))

pub whole_records : WholeHasRecordOnce
whole_records schema whole =
    let classes = map (λ (r : ClassRec). r.id) schema.classes in
    let attributes = map (λ (r : AttrRec). r.id) schema.attributes in
    let groups = map (λ (r : GroupRec). r.id) schema.groups in
    let bindings = map (λ (r : BindRec). r.id) schema.bindings in
    let actions = map (λ (r : ActRec). r.id) schema.actions in
    let notifications = map (λ (r : NoteRec). r.id) schema.notifications in
    record_once schema.classes attributes
    (front_once (classes ++ attributes) groups
    (front_once (classes ++ attributes ++ groups) bindings
    (front_once (classes ++ attributes ++ groups ++ bindings) actions
    (front_once (classes ++ attributes ++ groups ++ bindings ++ actions) notifications whole.identifiers))))
