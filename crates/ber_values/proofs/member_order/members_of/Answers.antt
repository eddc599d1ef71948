use Rattle.std.proofs.Common.{rules, ◌≡◌, ◌++◌, [], ◌∷◌, sym, ap, ◌∙◌, append_assoc}
use Rattle.std.proofs.lemmas.List.{append-nil}
use Rattle.ber_values.proofs.MemberLaws.{none_of, one_value_more, one_member_more}
use Rattle.ber_values.specs.MemberOrder.{members_of}
use Rattle.term_values.specs.Typed.{listed}
use Rattle.ber_values.proofs.member_order.members_of.Goals as goal

pub loop-member-preserved : goal.loop-member-preserved
loop-member-preserved c =
    let yielded = c.loop-member.yielded in
    let pushed : c.push.new.self.items ≡ c.loop-member.items.items ++ c.in-Some.member.value ∷ [] = search rules in (
      append_assoc yielded (c.in-Some.member ∷ []) c.next.new.self.rest.items
          ∙ (ap (λ xs. yielded ++ xs) (sym c.in-Some.ensures.steps.0) ∙ c.loop-member.invariant.0),
      ap listed pushed ∙ one_value_more c.loop-member.items.items c.in-Some.member.value yielded c.in-Some.member
          c.loop-member.invariant.1,
    )

pub returns : goal.returns
returns c =
    let rest = c.loop-member.member-iterator.rest in
    let yielded = c.loop-member.yielded in
    let none : rest.items ≡ [] = none_of rest.items (sym rest.ok.0 ∙ c.in-None.ensures.steps.0) in
    let all : yielded ≡ c.args.members.items =
    sym (append-nil yielded) ∙ (ap (λ xs. yielded ++ xs) (sym none) ∙ c.loop-member.invariant.0) in
    c.loop-member.invariant.1 ∙ ap members_of all
