-- What a pass has seen, and what comes of it.
use Rattle.std.proofs.Common.{◌≡◌, ◌+◌, Bool, false, cond, List, [], ◌∷◌, ◌++◌}
use Rattle.std.proofs.Common.{refl, sym, ap, subst, ◌∙◌, arith, append_assoc}
use Rattle.std.proofs.lemmas.List.{append-nil}
use mathlib.Core.List.{IsPrefix}
use Rattle.agent_model.specs.declared.entry.Entry.{Entry}
use Rattle.hall_seats.specs.declared.right.Right.{Right}
use Rattle.hall_seats.specs.Rights.{Has, Holds, admitted, given, given_by}
use Rattle.hall_seats.specs.Rights.{is_own, own}
use Rattle.hall_seats.specs.Passes.{Grew, Known, Sees}
use Rattle.hall_seats.proofs.RightLaws.{admissions-append, given_by-append, has_right, holds_more}
use Rattle.hall_seats.proofs.RightLaws.{own-append}

pub prefix_self : (xs : List Entry) → IsPrefix xs xs
prefix_self xs = ([], append-nil xs)

pub prefix_more : (xs ys zs : List Entry) → IsPrefix xs ys → IsPrefix xs (ys ++ zs)
prefix_more xs ys zs p = (p.0 ++ zs, sym (append_assoc xs p.0 zs) ∙ ap (λ w. w ++ zs) p.1)

pub prefix_both : (xs ys zs : List Entry) → IsPrefix xs ys → IsPrefix ys zs → IsPrefix xs zs
prefix_both xs ys zs p q = subst (IsPrefix xs) q.1 (prefix_more xs ys q.0 p)

-- the journal as it is has all of itself
pub sees_itself : (journal : List Entry) (rights : List Right) → Sees journal journal rights
sees_itself journal rights = (prefix_self journal, λ r h. refl)

-- with fewer rights the same is seen
pub sees_fewer : (journal list : List Entry) (rights less : List Right) → ((r : Right) → Has less r → Has rights r)
    → Sees journal list rights → Sees journal list less
sees_fewer journal list rights less fewer s = (s.0, λ r h. s.1 r (holds_more less rights fewer r h))

-- what was seen begins each longer journal; where none of the entries behind it is of a right that is held, with its
-- entries
pub sees_longer : (journal list : List Entry) (rights : List Right) (e : Entry)
    → ((r : Right) → Holds rights r → is_own r e ≡ false) → Sees journal list rights
    → Sees (journal ++ e ∷ []) list rights
sees_longer journal list rights e away s = (
  prefix_more list journal (e ∷ []) s.0,
  λ r h. s.1 r h ∙ sym (own-append r journal (e ∷ []) ∙ ap (λ w. own r journal ++ w) (none (is_own r e) (away r h))
      ∙ append-nil (own r journal)),
)
  where
    none : (b : Bool) → b ≡ false → cond b (e ∷ []) [] ≡ []
    none b is = ap (λ x. cond x (e ∷ []) []) is

-- seen by one that was seen later by a further one
pub sees_later : (journal list earlier : List Entry) (rights : List Right) → Sees journal list rights
    → Sees list earlier rights → Sees journal earlier rights
sees_later journal list earlier rights s t = (
  prefix_both earlier list journal t.0 s.0,
  λ r h. t.1 r h ∙ s.1 r h,
)

-- nothing was added
pub grew_none : (p : Known) → Grew p p []
grew_none p = record {
  begins = prefix_self p.list;
  rights = refl;
  own = λ r h. sym (append-nil (own r p.list));
  parts = refl;
  admissions = omega arith;
}

-- a pass that has seen the journal as it is, and changed in nothing else
pub grew_shown : (journal : List Entry) (p q : Known) → Sees journal p.list p.rights → q.list ≡ journal
    → q.rights ≡ p.rights → q.parts ≡ p.parts → q.admissions ≡ p.admissions → Grew p q []
grew_shown journal p q s list rights parts counts = record {
  begins = subst (IsPrefix p.list) (sym list) s.0;
  rights = rights;
  own = λ r h. ap (own r) list ∙ sym (s.1 r h) ∙ sym (append-nil (own r p.list));
  parts = parts;
  admissions = omega (arith, counts);
}

-- a pass that has seen the journal with an entry of its own
pub grew_counted : (journal : List Entry) (p q : Known) (e : Entry) → Sees journal p.list p.rights
    → q.list ≡ journal ++ e ∷ [] → q.rights ≡ given e ++ p.rights → q.parts ≡ p.parts
    → q.admissions ≡ p.admissions + admitted e → Grew p q (e ∷ [])
grew_counted journal p q e s list rights parts counts = record {
  begins = subst (IsPrefix p.list) (sym list) (prefix_more p.list journal (e ∷ []) s.0);
  rights = rights;
  own = λ r h. ap (own r) list ∙ own-append r journal (e ∷ []) ∙ ap (λ w. w ++ own r (e ∷ [])) (sym (s.1 r h));
  parts = parts;
  admissions = omega (arith, counts);
}

-- two calls, one behind the other
pub grew_both : (p q s : Known) (xs ys : List Entry) → Grew p q xs → Grew q s ys → Grew p s (xs ++ ys)
grew_both p q s xs ys g h = record {
  begins = prefix_both p.list q.list s.list g.begins h.begins;
  rights = h.rights ∙ ap (λ w. given_by ys ++ w) g.rights ∙ sym (append_assoc (given_by ys) (given_by xs) p.rights)
      ∙ ap (λ w. w ++ p.rights) (sym (given_by-append xs ys));
  own = λ r holds. h.own r (kept r holds) ∙ ap (λ w. w ++ own r ys) (g.own r holds)
      ∙ append_assoc (own r p.list) (own r xs) (own r ys) ∙ ap (λ w. own r p.list ++ w) (sym (own-append r xs ys));
  parts = h.parts ∙ g.parts;
  admissions = omega (arith, g.admissions, h.admissions, admissions-append xs ys);
}
  where
    kept : (r : Right) → Holds p.rights r → Holds q.rights r
    kept r holds = subst (λ w. Holds w r) (sym g.rights)
        (holds_more p.rights (given_by xs ++ p.rights) (has_right (given_by xs) p.rights) r holds)

-- whoever had rights has them
pub grew_holds : (p q : Known) (xs : List Entry) → Grew p q xs → (r : Right) → Holds p.rights r → Holds q.rights r
grew_holds p q xs g r holds = subst (λ w. Holds w r) (sym g.rights)
    (holds_more p.rights (given_by xs ++ p.rights) (has_right (given_by xs) p.rights) r holds)

-- what was seen before is seen by the journal that the pass is shown later
pub sees_grown : (journal : List Entry) (p q : Known) → Grew p q [] → Sees journal q.list q.rights
    → Sees journal p.list p.rights
sees_grown journal p q g s = (
  prefix_both p.list q.list journal g.begins s.0,
  λ r h. sym (append-nil (own r p.list)) ∙ sym (g.own r h) ∙ s.1 r (grew_holds p q [] g r h),
)
