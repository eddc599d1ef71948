-- ClosingLaws: facts of an answer that follow from others of it.
use Rattle.std.specs.Prelude.{Err, IfErr, IfOk, Ok, OnOk, Result}

pub ok_by : {A E : Type 0} {P Q : A → Type 0} (r : Result A E) → ((x : A) → P x → Q x) → IfOk r P → IfOk r Q
ok_by (Ok x) to p = to x p
ok_by (Err e) to p = p

pub on_ok_by : {A E : Type 0} {P : A → Type 0} {Q : Type 0} (r : Result A E) → ((x : A) → P x → Q) → IfOk r P →
    OnOk r Q
on_ok_by (Ok x) to p = to x p
on_ok_by (Err e) to p = p

pub err_by : {A E : Type 0} {P Q : E → Type 0} (r : Result A E) → ((e : E) → P e → Q e) → IfErr r P → IfErr r Q
err_by (Ok x) to p = p
err_by (Err e) to p = to e p
