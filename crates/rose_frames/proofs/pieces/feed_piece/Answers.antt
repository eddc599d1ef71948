-- The frames so far, and what is left of the piece.
use Rattle.std.proofs.Common.{rules, ◌≡◌, ◌++◌, length, flat_map, sym, ap, ◌∙◌, arith}
use Rattle.std.proofs.lemmas.List.{take_rest}
use Rattle.std.proofs.lemmas.Result.{err_from_is_err_and}
use Rattle.term_model.specs.RemoteOperation.{frame}
use Rattle.rose_frames.specs.Framing.{Framing, fault_in, in_hand, is_whole}
use Rattle.rose_frames.proofs.CuttingLaws.{ended, fed_on, feeding_start, frame_some, handed_on, refusal_of}
use Rattle.rose_frames.proofs.pieces.feed_piece.Goals as goal

pub frames-init : goal.frames-init
frames-init c = feeding_start c.args.framer.now c.args.piece.now c.args.apdus.now.items c.requires

pub slice_bounds-feed-count : goal.slice_bounds-feed-count
slice_bounds-feed-count c = c.frames.invariant.within

pub returns-in_err-at-clause-refused : goal.returns-in_err-at-clause-refused
returns-in_err-at-clause-refused c =
    let p = err_from_is_err_and c.from_residual.result c.from_residual.ensures.1 in
    rw (p.1, p.2) (refusal_of c.args.framer.now c.frames.framer c.args.piece.now _ c.frames.at c.args.apdus.now.items
    c.frames.apdus.items _ c.frames.invariant (take_rest c.args.piece.now c.frames.at) c.in_err-at.ensures.fault)

pub returns-in-None-clause-fed : goal.returns-in-None-clause-fed
returns-in-None-clause-fed c =
    let f = c.frames.invariant in
    let e = ended c.frames.framer c.feed.new.self c.args.piece.now _ c.frames.at
    (take_rest c.args.piece.now c.frames.at)
    c.in_ok-at.ensures.taken.0 c.in_ok-at.ensures.sound (c.next_frame.ensures.none.0 c.in-None.is) in (
      f.found,
      f.apdus,
      record {
        whole = f.begins.whole
            ∙ ap (λ xs. flat_map frame f.found ++ xs)
            (e.all ∙ ap (λ (v : Framing). v.octets) (sym c.in-None.ensures.kept));
        each = f.begins.each;
      },
      ap (λ (v : Framing). v.place) c.in-None.ensures.kept
          ∙ (ap (λ (v : Framing). v.place) c.in_ok-at.ensures.taken.0 ∙ f.placed),
    )

pub returns-in-None-clause-stops : goal.returns-in-None-clause-stops
returns-in-None-clause-stops c =
    let whole = c.next_frame.ensures.none.0 c.in-None.is in
    let e = ended c.frames.framer c.feed.new.self c.args.piece.now _ c.frames.at
    (take_rest c.args.piece.now c.frames.at)
    c.in_ok-at.ensures.taken.0 c.in_ok-at.ensures.sound whole in
    let kept = c.in-None.ensures.kept in (
      ap (λ (v : Framing). in_hand v.octets) kept ∙ (e.again ∙ ap (λ (v : Framing). v.octets) (sym kept)),
      ap (λ (v : Framing). is_whole v.octets) kept ∙ whole,
      ap (λ (v : Framing). fault_in 0 v.octets) kept ∙ e.sound,
    )

pub frames-smaller : goal.frames-smaller
frames-smaller c =
    let f = fed_on c.args.framer.now c.frames.framer c.feed.new.self c.args.piece.now _ c.frames.at c.in_ok-at.field-0
    c.args.apdus.now.items c.frames.apdus.items c.frames.invariant (take_rest c.args.piece.now c.frames.at)
    c.in_ok-at.ensures.taken.0 c.in_ok-at.ensures.taken.1 in
    let some = frame_some c.feed.new.self c.in-Some.items.items c.in-Some.ensures.found.0 in
    let empty : length c.next_frame.new.self.octets ≡ 0 =
    ap (λ (v : Framing). length v.octets) c.in-Some.ensures.behind in
    omega (arith, f.within, some, empty, c.in_ok-at.ensures.taken.1)

pub frames-preserved : goal.frames-preserved
frames-preserved c =
    let rest = take_rest c.args.piece.now c.frames.at in
    let f = fed_on c.args.framer.now c.frames.framer c.feed.new.self c.args.piece.now _ c.frames.at c.in_ok-at.field-0
    c.args.apdus.now.items c.frames.apdus.items c.frames.invariant rest c.in_ok-at.ensures.taken.0
    c.in_ok-at.ensures.taken.1 in
    handed_on c.args.framer.now c.feed.new.self c.next_frame.new.self c.args.piece.now c.in-Some.items.items _
    c.args.apdus.now.items c.frames.apdus.items c.push.new.self.items f c.in-Some.ensures.found.0
    c.in-Some.ensures.found.1
    c.in-Some.ensures.behind (search rules)
