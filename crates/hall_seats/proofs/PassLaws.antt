-- What the roll's calls say of a pass.
use Rattle.std.proofs.Common.{◌≡◌, Bool, true, false, cond, List, [], ◌∷◌, ◌++◌}
use Rattle.std.proofs.Common.{refl, sym, ap, subst, ◌∙◌, true≢false}
use Rattle.agent_model.specs.declared.entry.Entry.{Entry}
use Rattle.agent_model.specs.declared.entry.Entry.TheVariants as entry
use Rattle.hall_seats.specs.declared.right.Right.{Right}
use Rattle.hall_seats.specs.declared.right.Right.TheVariants as right
use Rattle.hall_seats.specs.Rights.{Distinct, Has, Holds, association, given, is_opened, is_own, own}
use Rattle.hall_seats.specs.Passes.{MayAdd}
use Rattle.hall_seats.specs.Rule.{IsFresh}
use Rattle.hall_seats.proofs.RightLaws.{distinct_both, given_new, given_once, held_right, own-append}

-- an entry that brings rights is of none
bringing : (e : Entry) (q r : Right) → Has (given e) q → is_own r e ≡ false
bringing (entry.Opened n bind) q (right.Arriving a) h = refl
bringing (entry.Opened n bind) q (right.Taking a) h = refl
bringing (entry.Opened n bind) q (right.Closing a) h = refl
bringing (entry.Arrived n apdu) q r h = absurd h
bringing (entry.Begun n log) q r h = absurd h
bringing (entry.Granted n moment) q r h = absurd h
bringing (entry.Committed n) q r h = absurd h
bringing (entry.Starved n) q r h = absurd h
bringing (entry.Taken n count) q r h = absurd h
bringing (entry.Finished n) q r h = absurd h
bringing (entry.Closed n why) q r h = absurd h

-- of the association that an entry opens there is no other entry
pub fresh_given : (rights : List Right) (journal : List Entry) (e : Entry) → MayAdd rights journal e → IsFresh journal
    → (r : Right) → Holds (given e) r → own r (journal ++ e ∷ []) ≡ []
fresh_given rights journal e may fresh r holds =
    let q = held_right (given e) r holds in
    let closed : is_opened (association r) journal ≡ false =
    subst (λ a. is_opened a journal ≡ false) q.2 (given_new rights journal e may q.0 q.1).0 in
    own-append r journal (e ∷ []) ∙ ap (λ w. w ++ own r (e ∷ [])) (fresh r closed)
    ∙ none (is_own r e) (bringing e q.0 r q.1)
  where
    none : (b : Bool) → b ≡ false → cond b (e ∷ []) [] ≡ []
    none b is = ap (λ x. cond x (e ∷ []) []) is

-- the rights that an entry brings aren't among those of opened associations
pub once_given : (rights : List Right) (journal : List Entry) (e : Entry) → MayAdd rights journal e → Distinct rights
    → ((r : Right) → Has rights r → is_opened (association r) journal ≡ true) → Distinct (given e ++ rights)
once_given rights journal e may once opened = distinct_both (given e) rights (given_once e) once
    (λ r h g. true≢false (sym (opened r g) ∙ (given_new rights journal e may r h).0))
