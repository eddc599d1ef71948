-- Tests that hold together, in another order.
use Rattle.std.proofs.Common.{◌≡◌, Bool, ◌&&◌}
use Rattle.std.proofs.lemmas.Bool.{and_from, and_parts}
use Rattle.request_laws.proofs.Options.{both_ways}

-- as the head of an argument with a scope is read, and as its components stand
pub scoped_order : (a s r c b f z : Bool) → (((a && (s && r)) && ((c && b) && f)) && z)
    ≡ (c && (b && (a && (s && (r && (f && z))))))
scoped_order a s r c b f z =
    both_ways _ _
    (λ e.
    let p = and_parts ((a && (s && r)) && ((c && b) && f)) z e in
    let q = and_parts (a && (s && r)) ((c && b) && f) p.0 in
    let u = and_parts a (s && r) q.0 in
    let v = and_parts s r u.1 in
    let w = and_parts (c && b) f q.1 in
    let x = and_parts c b w.0 in
    and_from _ _ x.0 (and_from _ _ x.1 (and_from _ _ u.0 (and_from _ _ v.0 (and_from _ _ v.1
    (and_from _ _ w.1 p.1))))))
    (λ e.
    let p = and_parts c (b && (a && (s && (r && (f && z))))) e in
    let q = and_parts b (a && (s && (r && (f && z)))) p.1 in
    let u = and_parts a (s && (r && (f && z))) q.1 in
    let v = and_parts s (r && (f && z)) u.1 in
    let w = and_parts r (f && z) v.1 in
    let x = and_parts f z w.1 in
    and_from _ _
    (and_from _ _ (and_from _ _ u.0 (and_from _ _ v.0 w.0)) (and_from _ _ (and_from _ _ p.0 q.0) x.0)) x.1)

-- as the components of m-Create behind the class
pub create_order : (a g p r : Bool) → ((a && g) && (p && r)) ≡ (p && (a && (r && g)))
create_order a g p r =
    both_ways _ _
    (λ e.
    let u = and_parts (a && g) (p && r) e in
    let v = and_parts a g u.0 in
    let w = and_parts p r u.1 in
    and_from _ _ w.0 (and_from _ _ v.0 (and_from _ _ w.1 v.1)))
    (λ e.
    let u = and_parts p (a && (r && g)) e in
    let v = and_parts a (r && g) u.1 in
    let w = and_parts r g v.1 in
    and_from _ _ (and_from _ _ v.0 w.1) (and_from _ _ u.0 w.0))

-- as those of m-EventReport
pub report_order : (h k c b t z : Bool) → (((h && k) && ((c && b) && t)) && z)
    ≡ (((c && b) && t) && (k && (h && z)))
report_order h k c b t z =
    both_ways _ _
    (λ e.
    let u = and_parts ((h && k) && ((c && b) && t)) z e in
    let v = and_parts (h && k) ((c && b) && t) u.0 in
    let w = and_parts h k v.0 in
    and_from _ _ v.1 (and_from _ _ w.1 (and_from _ _ w.0 u.1)))
    (λ e.
    let u = and_parts ((c && b) && t) (k && (h && z)) e in
    let v = and_parts k (h && z) u.1 in
    let w = and_parts h z v.1 in
    and_from _ _ (and_from _ _ (and_from _ _ w.0 v.0) u.0) w.1)

pub object_order : (c b t z : Bool) → (((c && b) && t) && z) ≡ (c && (b && (t && z)))
object_order c b t z =
    both_ways _ _
    (λ e.
    let u = and_parts ((c && b) && t) z e in
    let v = and_parts (c && b) t u.0 in
    let w = and_parts c b v.0 in
    and_from _ _ w.0 (and_from _ _ w.1 (and_from _ _ v.1 u.1)))
    (λ e.
    let u = and_parts c (b && (t && z)) e in
    let v = and_parts b (t && z) u.1 in
    let w = and_parts t z v.1 in
    and_from _ _ (and_from _ _ (and_from _ _ u.0 v.0) w.0) w.1)
