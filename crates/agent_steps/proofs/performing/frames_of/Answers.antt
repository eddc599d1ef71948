use Rattle.std.proofs.Common.{◌≡◌, ◌<◌, ◌+◌, ◌++◌, ◌∷◌, length, drop, sym, ap, ◌∙◌, arith, rules, to_z, of_z}
use Rattle.std.proofs.Common.{w32, w64}
use Rattle.std.proofs.Math.Facts.{to_z-of_z}
use Rattle.std.proofs.lemmas.List.{drop_all, drop_more}
use Rattle.term_model.specs.Operation.{own_behind, replied}
use Rattle.agent_steps.proofs.PerformingLaws.{octets_last, octets_next, own_last, own_next}
use Rattle.agent_steps.proofs.performing.frames_of.Goals as goal

pub loop-reply-preserved : goal.loop-reply-preserved
loop-reply-preserved c =
    let xs = c.args.replies.now in
    let i = c.loop-reply.reply-index in
    let x = c.reply-item.result in
    let invoke = to_z w32 (of_z w32 c.args.invoke) in
    let operation = to_z w64 (of_z w64 c.args.operation) in
    let own = to_z w32 c.loop-reply.next-bits in
    let within : i < length xs = omega arith in
    let more : drop i xs ≡ x ∷ drop (i + 1) xs =
    drop_more xs i x within ∙ ap (λ z. z ∷ drop (i + 1) xs) (search rules) in
    let behind : to_z w32 (of_z w32 c.own_behind-next.result) ≡ own_behind own x =
    to_z-of_z {w = w32} {z = c.own_behind-next.result} (search rules) ∙ c.own_behind-next.ensures in
    record {
      octets = octets_next invoke operation own x (drop i xs) (drop (i + 1) xs) c.loop-reply.octets.items
          c.write_reply.new.into.items (replied invoke operation (to_z w32 (of_z w32 c.args.own)) xs).octets more
          c.in_ok-write_reply.ensures.written c.loop-reply.invariant.octets
          ∙ ap (λ z. c.write_reply.new.into.items ++ (replied invoke operation z (drop (i + 1) xs)).octets)
          (sym behind);
      own = own_next invoke operation own x (drop i xs) (drop (i + 1) xs)
          (replied invoke operation (to_z w32 (of_z w32 c.args.own)) xs).own more c.loop-reply.invariant.own
          ∙ ap (λ z. (replied invoke operation z (drop (i + 1) xs)).own) (sym behind);
    }

pub returns-clause-octets : goal.returns-clause-octets
returns-clause-octets c =
    let xs = c.args.replies.now in
    let i = c.loop-reply.reply-index in
    let invoke = to_z w32 (of_z w32 c.args.invoke) in
    let operation = to_z w64 (of_z w64 c.args.operation) in
    let own = to_z w32 (of_z w32 c.args.own) in
    let same_invoke : invoke ≡ c.args.invoke = to_z-of_z {w = w32} {z = c.args.invoke} (search rules) in
    let same_operation : operation ≡ c.args.operation = to_z-of_z {w = w64} {z = c.args.operation} (search rules) in
    let same_own : own ≡ c.args.own = to_z-of_z {w = w32} {z = c.args.own} (search rules) in
    octets_last invoke operation (to_z w32 c.loop-reply.next-bits) (drop i xs)
    c.loop-reply.octets.items (replied invoke operation own xs).octets (drop_all i xs c.loop-reply-test.false)
    c.loop-reply.invariant.octets
    ∙ (ap (λ z. (replied z operation own xs).octets) same_invoke
    ∙ (ap (λ z. (replied c.args.invoke z own xs).octets) same_operation
    ∙ ap (λ z. (replied c.args.invoke c.args.operation z xs).octets) same_own))

pub returns-clause-own : goal.returns-clause-own
returns-clause-own c =
    let xs = c.args.replies.now in
    let i = c.loop-reply.reply-index in
    let invoke = to_z w32 (of_z w32 c.args.invoke) in
    let operation = to_z w64 (of_z w64 c.args.operation) in
    let own = to_z w32 (of_z w32 c.args.own) in
    let same_invoke : invoke ≡ c.args.invoke = to_z-of_z {w = w32} {z = c.args.invoke} (search rules) in
    let same_operation : operation ≡ c.args.operation = to_z-of_z {w = w64} {z = c.args.operation} (search rules) in
    let same_own : own ≡ c.args.own = to_z-of_z {w = w32} {z = c.args.own} (search rules) in
    own_last invoke operation (to_z w32 c.loop-reply.next-bits) (drop i xs)
    (replied invoke operation own xs).own (drop_all i xs c.loop-reply-test.false) c.loop-reply.invariant.own
    ∙ (ap (λ z. (replied z operation own xs).own) same_invoke
    ∙ (ap (λ z. (replied c.args.invoke z own xs).own) same_operation
    ∙ ap (λ z. (replied c.args.invoke c.args.operation z xs).own) same_own))
