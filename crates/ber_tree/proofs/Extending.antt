-- What stood there before a writing begins what stands there after it.
use Rattle.std.proofs.Common.{◌≡◌, ℕ, ◌≤◌, Bool, true, false, cond, List, ◌++◌, length, take, sym, ap, ◌∙◌, arith}
use Rattle.std.proofs.Common.{length-take}
use Rattle.std.proofs.Math.Seq.{take-length, take-append_seam}
use Rattle.std.proofs.lemmas.List.{take-take}
use Rattle.ber_tree.specs.Writing.{Extends}

pub extends_same : (xs : List ℕ) → Extends xs xs
extends_same xs = record { begun = take-length xs }

pub extends_append : (xs ys : List ℕ) → Extends xs (xs ++ ys)
extends_append xs ys = record { begun = take-append_seam xs ys }

longer : (xs ys : List ℕ) → take (length xs) ys ≡ xs → length xs ≤ length ys
longer xs ys e = omega (arith, length-take (length xs) ys, ap length e)

pub extends_trans : (xs ys zs : List ℕ) → Extends xs ys → Extends ys zs → Extends xs zs
extends_trans xs ys zs f g =
    let short : length xs ≤ length ys = longer xs ys f.begun in
    record {
      begun = sym (take-take (length xs) (length ys) zs short)
          ∙ (ap (λ ws. take (length xs) ws) g.begun ∙ f.begun);
    }

-- after a call that appends or leaves what was there
pub extends_push : (done : Bool) (xs ys zs : List ℕ) → zs ≡ cond done (xs ++ ys) xs → Extends xs zs
extends_push true xs ys zs e = rw e (extends_append xs ys)
extends_push false xs ys zs e = rw e (extends_same xs)

pub ruleset extending = (extends_same, extends_append, extends_trans, extends_push)
