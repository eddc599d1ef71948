-- The answer in its frame, turned round.
use Rattle.std.proofs.Common.{[], ◌++◌, reverse, refl, ap, ◌∙◌}
use Rattle.agent_model.specs.Bind.{bind_answer}
use Rattle.term_model.specs.RemoteOperation.{frame}
use Rattle.ber_tree.proofs.Backwards.{turned}
use Rattle.bind_apdus.proofs.bind_writing.bind_answer_frame.Goals as goal

pub returns : goal.returns
returns c =
    let answer = bind_answer c.args.code c.args.association in
    turned (frame answer) c.reverse_from.ensures
    (c.in_ok-close_frame.ensures.written [] answer refl
    (c.in_ok-write_bind_answer.ensures.written ∙ ap (λ xs. xs ++ reverse answer) c.new-octets.ensures.items))
