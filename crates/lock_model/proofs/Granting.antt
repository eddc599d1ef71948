-- A grant keeps what holds of the operations that are not ended, and so do their beginnings and ends.
use Rattle.std.proofs.Common.{◌≡◌, ◌≢◌, ◌<◌, ◌⊎◌, ◌+◌, ℕ, zero, suc, true, List, [], ◌∷◌, Option, None, Some, length}
use Rattle.std.proofs.Common.{take}
use Rattle.std.proofs.Common.{refl, sym, ap, ◌∙◌, subst, arith, inl, inr}
use Rattle.std.specs.Prelude.{Contains, slice_get}
use Rattle.std.proofs.lemmas.Bool.{false≢true}
use Rattle.std.proofs.lemmas.Option.{none-some, same_Some}
use Rattle.term_model.specs.declared.objects.NamedObject.{NamedObject}
use Rattle.term_model.specs.declared.schema.Set.{Set}
use Rattle.lock_model.specs.declared.lock_name.LockName.{LockName}
use Rattle.lock_model.specs.declared.lock_name.Mode.{Mode}
use Rattle.lock_model.specs.LockPath.{Path, goes_with}
use Rattle.lock_model.specs.ReadSet.{read_set}
use Rattle.lock_model.specs.Units.{taken_on}
use Rattle.lock_model.specs.PathLaws.{GoTogether}
use Rattle.lock_model.specs.Invariant.{GrantKeepsSound, IsGrant, IsGranted, OthersKeepSound, Row, held_of, path_of}
use Rattle.lock_model.specs.Invariant.{taken_row}
use Rattle.lock_model.proofs.Standing.{first_or_later}
use Rattle.lock_model.proofs.Ways.{has_first, has_later}
use Rattle.lock_model.specs.declared.lock_name.Mode.TheVariants as modes

-- of one element more the last may be it
one_more : {A : Type 0} (xs : List A) (k : ℕ) (x : A) → Contains (take (suc k) xs) x
    → Contains (take k xs) x ⊎ (slice_get xs k ≡ Some x)
one_more [] k x h = absurd (omega (arith, h.1))
one_more {A} (y ∷ ys) zero x h = elim (first_or_later y [] x h) [
  | inl is ↦ inr (ap (λ z. Some z) is)
  | inr later ↦ absurd (omega (arith, later.1))
]
one_more {A} (y ∷ ys) (suc k) x h = elim (first_or_later y (take (suc k) ys) x h) [
  | inl is ↦ inl (subst (λ z. Contains (y ∷ take k ys) z) is (has_first y (take k ys)))
  | inr later ↦ elim (one_more ys k x later) [
    | inl before ↦ inl (has_later y (take k ys) x before)
    | inr last ↦ inr last
  ]
]

pub symmetric : (m n : Mode) → goes_with m n ≡ true → goes_with n m ≡ true
symmetric modes.IS modes.IS h = refl
symmetric modes.IS modes.IX h = refl
symmetric modes.IS modes.S h = refl
symmetric modes.IS modes.X h = absurd (false≢true h)
symmetric modes.IX modes.IS h = refl
symmetric modes.IX modes.IX h = refl
symmetric modes.IX modes.S h = absurd (false≢true h)
symmetric modes.IX modes.X h = absurd (false≢true h)
symmetric modes.S modes.IS h = refl
symmetric modes.S modes.IX h = absurd (false≢true h)
symmetric modes.S modes.S h = refl
symmetric modes.S modes.X h = absurd (false≢true h)
symmetric modes.X n h = absurd (false≢true h)

no_first : {A : Type 0} (xs : List A) (x : A) → Contains (take 0 xs) x → ⊥
no_first [] x h = absurd (omega (arith, h.1))
no_first (y ∷ ys) x h = absurd (omega (arith, h.1))

pub together_symmetric : (p q : Path) → GoTogether p q → GoTogether q p
together_symmetric p q go lock m n at there = symmetric n m (go lock n m there at)

still_waits : (past : ℕ → List NamedObject) (now : List NamedObject) (held places : ℕ) (granted : Option ℕ)
    → IsGrant past now held places granted → granted ≡ None → held < places
still_waits past now held places None grant e = grant
still_waits past now held places (Some place) grant e = absurd (none-some place (sym e))

now_granted : (schema : Set) (past : ℕ → List NamedObject) (now : List NamedObject) (row : Row) (granted : Option ℕ)
    (place : ℕ) → IsGrant past now (row.held + 1) (length (path_of schema now row)) granted → granted ≡ Some place
    → IsGranted schema past now (taken_row row granted) place
now_granted schema past now row None place grant e = absurd (none-some place e)
now_granted schema past now row (Some p) place grant e =
    let is : p ≡ place = same_Some p place e in
    record {
      whole = grant.0;
      same = ap (read_set schema (taken_on schema now row.whole).unit) (ap past (sym is) ∙ grant.1);
    }

pub grant_keeps_sound : GrantKeepsSound
grant_keeps_sound = λ schema past now rows left row next granted sound at wants free grant from.
    let new_with : (other : Row) → Contains rows other → other.op ≢ row.op
    → GoTogether (held_of schema now (taken_row row granted)) (held_of schema now other) =
    λ other there differs lock m n mine theirs.
    (let one : suc row.held ≡ row.held + 1 = omega arith in
    elim (one_more (path_of schema now row) row.held (lock, m)
    (subst (λ k. Contains (take k (path_of schema now row)) (lock, m)) (sym one) mine)) [
      | inl before ↦ sound.together row other at there (λ e. differs (sym e)) lock m n before theirs
      | inr last ↦ (
          let is : ◌≡◌ {A = LockName × Mode} next (lock, m) = same_Some next (lock, m) (sym wants ∙ last) in
          symmetric n m (subst (λ (x : LockName × Mode). goes_with n x.1 ≡ true) is
          (free other there differs n
          (subst (λ (x : LockName × Mode). Contains (held_of schema now other) (x.0, n)) (sym is) theirs))))
    ]) in
    record {
      rises = sound.rises;
      short = sound.short;
      together = λ a b in_a in_b differs. elim (from a in_a) [
        | inl new_a ↦ elim (from b in_b) [
          | inl new_b ↦ absurd (differs (ap (λ (r : Row). r.op) (new_a ∙ sym new_b)))
          | inr old_b ↦ subst (λ (r : Row). GoTogether (held_of schema now r) (held_of schema now b)) (sym new_a)
              (new_with b old_b.0 old_b.1)
        ]
        | inr old_a ↦ elim (from b in_b) [
          | inl new_b ↦ subst (λ (r : Row). GoTogether (held_of schema now a) (held_of schema now r)) (sym new_b)
              (together_symmetric (held_of schema now (taken_row row granted)) (held_of schema now a)
              (new_with a old_a.0 old_a.1))
          | inr old_b ↦ sound.together a b old_a.0 old_b.0 differs
        ]
      ];
      waiting = λ other there waits. elim (from other there) [
        | inl new ↦ subst (λ (r : Row). r.held < length (path_of schema now r)) (sym new)
            (still_waits past now (row.held + 1) (length (path_of schema now row)) granted grant
            (sym (ap (λ (r : Row). r.granted) new) ∙ waits))
        | inr old ↦ sound.waiting other old.0 waits
      ];
      granted = λ other place there has. elim (from other there) [
        | inl new ↦ subst (λ (r : Row). IsGranted schema past now r place) (sym new)
            (now_granted schema past now row granted place grant (sym (ap (λ (r : Row). r.granted) new) ∙ has))
        | inr old ↦ sound.granted other place old.0 has
      ];
    }

pub others_keep_sound : OthersKeepSound
others_keep_sound = λ schema past later now rows left sound same from.
    let none_held : (p : Path) (q : Path) (k : ℕ) → k ≡ 0 → GoTogether (take k p) q =
    λ p q k e. subst (λ n. GoTogether (take n p) q) (sym e)
    (λ lock m n mine theirs. absurd (no_first p (lock, m) mine)) in
    record {
      rises = sound.rises;
      short = sound.short;
      together = λ a b in_a in_b differs. elim (from a in_a) [
        | inl old_a ↦ elim (from b in_b) [
          | inl old_b ↦ sound.together a b old_a old_b differs
          | inr new_b ↦ together_symmetric (held_of schema now b) (held_of schema now a)
              (none_held (path_of schema now b) (held_of schema now a) b.held new_b.0)
        ]
        | inr new_a ↦ none_held (path_of schema now a) (held_of schema now b) a.held new_a.0
      ];
      waiting = λ row there waits. elim (from row there) [
        | inl old ↦ sound.waiting row old waits
        | inr new ↦ subst (λ k. k < length (path_of schema now row)) (sym new.0) new.2
      ];
      granted = λ row place there has. elim (from row there) [
        | inl old ↦ (
            let was = sound.granted row place old has in
            record {
              whole = was.whole;
              same = ap (read_set schema (taken_on schema now row.whole).unit) (same row place old has) ∙ was.same;
            })
        | inr new ↦ absurd (none-some place (sym new.1 ∙ has))
      ];
    }
