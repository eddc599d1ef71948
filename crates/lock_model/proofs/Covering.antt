-- A unit has all that is in scope, also where its way ends at a log above it.
use Rattle.std.proofs.Common.{◌≡◌, ℕ, Bool, true, false, List, [], ◌∷◌, ◌++◌, Option, None, Some}
use Rattle.std.proofs.Common.{refl, sym, ap, ◌∙◌, subst, append_assoc, append-nil, if◌then◌else◌}
use Rattle.std.specs.Prelude.{◌||◌, ◌==◌, pos}
use Rattle.std.specs.Option.{option_map_or}
use Rattle.std.proofs.lemmas.Bool.{and_from, eqb-true, false≢true}
use Rattle.std.proofs.lemmas.Bool.Decides.{Decides-int_eq}
use Rattle.std.proofs.lemmas.Option.{none-some}
use Rattle.term_model.specs.declared.name.Rdn.{Rdn}
use Rattle.term_model.specs.declared.request.Head.{Head}
use Rattle.term_model.specs.declared.scope.Scope.{Scope}
use Rattle.term_model.specs.declared.scope.Scope.TheVariants as scopes
use Rattle.term_model.specs.Comparing.{is_same_name, is_same_rdn}
use Rattle.term_model.specs.Scope.{has_level, is_within, level_below}
use Rattle.operation_model.specs.WholeOperation.{is_base_object}
use Rattle.lock_model.specs.declared.lock_name.LockName.{LockName}
use Rattle.lock_model.specs.declared.lock_name.Part.{Part}
use Rattle.lock_model.specs.LockPath.{begins, is_inside, own, tree}
use Rattle.lock_model.specs.Units.{ended_at, ended_from, in_scope_of}
use Rattle.lock_model.proofs.Names.{begins_is, begins_itself, begins_more, inside_begins}
use Rattle.term_model.proofs.MapLaws.{same_itself}
use Rattle.lock_model.proofs.Reading.{Covers}

-- ---- levels

pub level_begins : (base name : List Rdn) (level : ℕ) → level_below base name ≡ Some level → begins base name ≡ true
level_begins [] name level h = refl
level_begins (p ∷ ps) [] level h = absurd (none-some level h)
level_begins (p ∷ ps) (a ∷ others) level h = by (level_begins ps others level) (is_same_rdn p a) refl h
  where
    by : (level_below ps others ≡ Some level → begins ps others ≡ true) → (b : Bool) → is_same_rdn p a ≡ b
        → (if b then level_below ps others else None) ≡ Some level → begins (p ∷ ps) (a ∷ others) ≡ true
    by again true e k = and_from _ _ e (again k)
    by again false e k = absurd (none-some level k)

pub level_zero : (base name : List Rdn) → level_below base name ≡ Some 0 → is_same_name base name ≡ true
level_zero [] [] h = refl
level_zero [] (a ∷ others) h = absurd cc
level_zero (p ∷ ps) [] h = absurd (none-some 0 h)
level_zero (p ∷ ps) (a ∷ others) h = by (level_zero ps others) (is_same_rdn p a) refl h
  where
    by : (level_below ps others ≡ Some 0 → is_same_name ps others ≡ true) → (b : Bool) → is_same_rdn p a ≡ b
        → (if b then level_below ps others else None) ≡ Some 0 → is_same_name (p ∷ ps) (a ∷ others) ≡ true
    by again true e k = and_from _ _ e (again k)
    by again false e k = absurd (none-some 0 k)

within_begins : (base name : List Rdn) (scope : Scope) → is_within base scope name ≡ true → begins base name ≡ true
within_begins base name scope h = by (level_below base name) refl h
  where
    by : (o : Option ℕ) → level_below base name ≡ o → option_map_or (has_level scope) o false ≡ true
        → begins base name ≡ true
    by None e k = absurd (false≢true k)
    by (Some level) e k = level_begins base name level e

-- baseObject has the level 0 alone
base_level : (scope : Scope) (level : ℕ) → is_base_object scope ≡ true → has_level scope level ≡ true → level ≡ 0
base_level (scopes.Plain number) level h k =
    by (level == 0) refl
    (subst (λ n. has_level (scopes.Plain n) level ≡ true) ((Decides-int_eq number (pos 0)).0 h) k)
  where
    by : (b : Bool) → (level == 0) ≡ b → (b || false || false) ≡ true → level ≡ 0
    by true e f = eqb-true level 0 e
    by false e f = absurd (false≢true f)
base_level (scopes.Level number) level h k = absurd (false≢true h)
base_level (scopes.Upto number) level h k = absurd (false≢true h)

within_base : (base name : List Rdn) (scope : Scope) → is_base_object scope ≡ true → is_within base scope name ≡ true
    → is_same_name base name ≡ true
within_base base name scope plain h = by (level_below base name) refl h
  where
    by : (o : Option ℕ) → level_below base name ≡ o → option_map_or (has_level scope) o false ≡ true
        → is_same_name base name ≡ true
    by None e k = absurd (false≢true k)
    by (Some level) e k =
        level_zero base name (e ∙ ap (λ (n : ℕ). Some n) (base_level scope level plain k))

pub own_covers : (base : List Rdn) (scope : Scope) → is_base_object scope ≡ true
    → Covers (is_inside (own base)) base scope
own_covers base scope plain = (same_itself base, λ name h. within_base base name scope plain h)

pub tree_covers : (base : List Rdn) (scope : Scope) → Covers (is_inside (tree base)) base scope
tree_covers base scope = (begins_itself base, λ name h. within_begins base name scope h)

pub scope_covers : (head : Head) (base : List Rdn) → Covers (is_inside (in_scope_of head base)) base head.scope
scope_covers head base = by (is_base_object head.scope) refl
  where
    by : (b : Bool) → is_base_object head.scope ≡ b
        → Covers (is_inside (if b then own base else tree base)) base head.scope
    by true e = own_covers base head.scope e
    by false e = tree_covers base head.scope

-- ---- ways that end at a log

pub front_begins : (front rest name : List Rdn) → begins (front ++ rest) name ≡ true → begins front name ≡ true
front_begins front rest name h =
    let behind = begins_is (front ++ rest) name h in
    subst (λ n. begins front n ≡ true) (sym (behind.1 ∙ append_assoc front rest behind.0))
    (begins_more front (rest ++ behind.0))

abbrev at_part : List Rdn → Part → LockName
at_part name part = record { name = name; part = part }

ended_from_covers : (is_log : List Rdn → Bool) (front parts : List Rdn) (part : Part) (name : List Rdn)
    → is_inside (at_part (front ++ parts) part) name ≡ true
    → is_inside (ended_from is_log front parts part) name ≡ true
ended_from_covers is_log front [] part name h = by (is_log front)
  where
    plain : is_inside (at_part front part) name ≡ true
    plain = subst (λ n. is_inside (at_part n part) name ≡ true) (append-nil front) h

    by : (b : Bool) → is_inside (if b then tree front else at_part front part) name ≡ true
    by true = inside_begins (at_part front part) name plain
    by false = plain
ended_from_covers is_log front (first ∷ others) part name h =
    by (ended_from_covers is_log (front ++ first ∷ []) others part name
    (subst (λ n. is_inside (at_part n part) name ≡ true) (sym (append_assoc front (first ∷ []) others)) h))
    (is_log front)
  where
    by : is_inside (ended_from is_log (front ++ first ∷ []) others part) name ≡ true → (b : Bool)
        → is_inside (if b then tree front else ended_from is_log (front ++ first ∷ []) others part) name ≡ true
    by again true =
        front_begins front (first ∷ others) name (inside_begins (at_part (front ++ first ∷ others) part) name h)
    by again false = again

pub ended_covers : (is_log : List Rdn → Bool) (unit : LockName) (name : List Rdn) → is_inside unit name ≡ true
    → is_inside (ended_at is_log unit) name ≡ true
ended_covers is_log unit name h = ended_from_covers is_log [] unit.name unit.part name h

pub covers_more : (less more : List Rdn → Bool) (base : List Rdn) (scope : Scope)
    → ((name : List Rdn) → less name ≡ true → more name ≡ true) → Covers less base scope → Covers more base scope
covers_more less more base scope h covers = (h base covers.0, λ name w. h name (covers.1 name w))
