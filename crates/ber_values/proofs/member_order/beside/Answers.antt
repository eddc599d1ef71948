use Rattle.std.proofs.Common.{rules, ◌≡◌, ◌++◌, [], ◌∷◌, sym, ap, ◌∙◌, append_assoc}
use Rattle.std.proofs.lemmas.List.{append-nil}
use Rattle.ber_values.proofs.MemberLaws.{none_of, one_member_more}
use Rattle.ber_values.specs.MemberOrder.{beside}
use Rattle.term_values.specs.Typed.{listed}
use Rattle.term_values.specs.Written.{der}
use Rattle.ber_values.proofs.member_order.beside.Goals as goal

pub loop-value-preserved : goal.loop-value-preserved
loop-value-preserved c =
    let yielded = c.loop-value.yielded in
    let pushed : c.push.new.self.items ≡ c.loop-value.found.items ++ record {
      octets =
          der c.args.member.now c.in-Some.value;
      value = c.in-Some.value;
    } ∷ [] = search rules in (
      append_assoc yielded (c.in-Some.value ∷ []) c.next.new.self.rest.items
          ∙ (ap (λ xs. yielded ++ xs) (sym c.in-Some.ensures.steps.0) ∙ c.loop-value.invariant.0),
      pushed ∙ ap (λ xs. xs ++ record {
        octets = der c.args.member.now c.in-Some.value;
        value =
            c.in-Some.value;
      } ∷ []) c.loop-value.invariant.1
          ∙ sym (one_member_more (der c.args.member.now) yielded c.in-Some.value),
    )
