-- Names that begin with others.
use Rattle.std.proofs.Common.{◌≡◌, ◌⊎◌, true, List, [], ◌∷◌, ◌++◌, refl, sym, ap, ◌∙◌, subst, inl, inr}
use Rattle.std.proofs.lemmas.Bool.{and_from, and_parts, false≢true}
use Rattle.term_model.specs.declared.name.Rdn.{Rdn}
use Rattle.term_model.specs.Comparing.{is_same_name, is_same_rdn}
use Rattle.term_model.proofs.MapLaws.{name_Decides, rdn_Decides}
use Rattle.lock_model.specs.declared.lock_name.LockName.{LockName}
use Rattle.lock_model.specs.declared.lock_name.Part.{Part}
use Rattle.lock_model.specs.LockPath.{begins, inside_of, is_inside}
use Rattle.lock_model.specs.declared.lock_name.Part.TheVariants as extents

pub rdn_itself : (r : Rdn) → is_same_rdn r r ≡ true
rdn_itself r = (rdn_Decides r r).1 refl

pub begins_itself : (name : List Rdn) → begins name name ≡ true
begins_itself [] = refl
begins_itself (r ∷ rs) = and_from _ _ (rdn_itself r) (begins_itself rs)

pub begins_more : (front rest : List Rdn) → begins front (front ++ rest) ≡ true
begins_more [] rest = refl
begins_more (r ∷ rs) rest = and_from _ _ (rdn_itself r) (begins_more rs rest)

pub begins_is : (front name : List Rdn) → begins front name ≡ true → (rest : List Rdn) × (name ≡ front ++ rest)
begins_is [] name h = (name, refl)
begins_is (r ∷ rs) [] h = absurd (false≢true h)
begins_is (r ∷ rs) (a ∷ others) h =
    let parts = and_parts (is_same_rdn r a) (begins rs others) h in
    let rest = begins_is rs others parts.1 in
    let first = (rdn_Decides r a).0 parts.0 in
    (rest.0, λ i. sym first i ∷ rest.1 i)

pub begins_trans : (a b c : List Rdn) → begins a b ≡ true → begins b c ≡ true → begins a c ≡ true
begins_trans [] b c h k = refl
begins_trans (x ∷ xs) [] c h k = absurd (false≢true h)
begins_trans (x ∷ xs) (y ∷ ys) [] h k = absurd (false≢true k)
begins_trans (x ∷ xs) (y ∷ ys) (z ∷ zs) h k =
    let one = and_parts (is_same_rdn x y) (begins xs ys) h in
    let two = and_parts (is_same_rdn y z) (begins ys zs) k in
    and_from _ _ (subst (λ w. is_same_rdn x w ≡ true) ((rdn_Decides y z).0 two.0) one.0)
    (begins_trans xs ys zs one.1 two.1)

-- of two names that begin a third one begins the other
pub comparable : (a b c : List Rdn) → begins a c ≡ true → begins b c ≡ true
    → (begins a b ≡ true) ⊎ (begins b a ≡ true)
comparable [] b c h k = inl refl
comparable (x ∷ xs) [] c h k = inr refl
comparable (x ∷ xs) (y ∷ ys) [] h k = absurd (false≢true h)
comparable (x ∷ xs) (y ∷ ys) (z ∷ zs) h k =
    let one = and_parts (is_same_rdn x z) (begins xs zs) h in
    let two = and_parts (is_same_rdn y z) (begins ys zs) k in
    let xz : x ≡ z = (rdn_Decides x z).0 one.0 in
    let yz : y ≡ z = (rdn_Decides y z).0 two.0 in
    elim (comparable xs ys zs one.1 two.1) [
      | inl e ↦ inl (and_from _ _ ((rdn_Decides x y).1 (xz ∙ sym yz)) e)
      | inr e ↦ inr (and_from _ _ ((rdn_Decides y x).1 (yz ∙ sym xz)) e)
    ]

-- names that begin each other are the same
pub begins_both : (a b : List Rdn) → begins a b ≡ true → begins b a ≡ true → a ≡ b
begins_both [] [] h k = refl
begins_both [] (y ∷ ys) h k = absurd (false≢true k)
begins_both (x ∷ xs) [] h k = absurd (false≢true h)
begins_both (x ∷ xs) (y ∷ ys) h k =
    let one = and_parts (is_same_rdn x y) (begins xs ys) h in
    let two = and_parts (is_same_rdn y x) (begins ys xs) k in
    let first = (rdn_Decides x y).0 one.0 in
    let rest = begins_both xs ys one.1 two.1 in
    λ i. first i ∷ rest i

pub same_begins : (a b : List Rdn) → is_same_name a b ≡ true → begins a b ≡ true
same_begins a b h = subst (λ c. begins a c ≡ true) ((name_Decides a b).0 h) (begins_itself a)

-- what is inside a unit begins with its name
pub inside_begins : (unit : LockName) (name : List Rdn) → is_inside unit name ≡ true → begins unit.name name ≡ true
inside_begins unit name h = by unit.part h
  where
    by : (part : Part) → inside_of part unit.name name ≡ true → begins unit.name name ≡ true
    by extents.Tree h = h
    by extents.Own h = same_begins unit.name name h

pub same_inside : (unit : LockName) (a b : List Rdn) → is_same_name a b ≡ true → is_inside unit a ≡ is_inside unit b
same_inside unit a b h = ap (is_inside unit) ((name_Decides a b).0 h)
