-- What is taken of a piece, by the octets of the length and those behind them.
use Rattle.std.proofs.Common.{rules, ◌≡◌, inr, ◌+◌, ◌-◌, ◌++◌, Some, None, Ok, Err, length, take, drop, min, IsErr}
use Rattle.std.proofs.Common.{subst, sym, ap, ◌∙◌, arith}
use Rattle.std.proofs.lemmas.List.{take_rest}
use Rattle.term_values.specs.Octets.{number}
use Rattle.rose_frames.specs.Framing.{fault_of, fault_in}
use Rattle.rose_frames.proofs.FramingLaws.{Long, due_is, fault_now, fed, no_fewer, refused, nothing_taken, none_taken}
use Rattle.rose_frames.proofs.FramingLaws.{sound_before, true_not_false}
use Rattle.rose_frames.proofs.framer.Framer.feed.Goals as goal

pub returns-in-Some-clause-faulty : goal.returns-in-Some-clause-faulty
returns-in-Some-clause-faulty c = λ refusal is.
    let l : Long c.args.self.now c.self.inside.place c.self.inside.filled c.lengthened-more.result.1 c.self.inside.size
    c.self.inside.apdu.items c.args.piece.now c.lengthened-more.result.0 = record {
      fields = record {
        four = c.self.invariant.0;
        within = c.self.invariant.1;
        none_yet = c.self.invariant.2;
        some =
            c.self.invariant.3;
      };
      view = c.self.view_is;
      whole = omega arith;
      four = search rules;
      is = c.lengthened-more.ensures.octets;
      count = c.lengthened-more.ensures.count;
    } in
    let found : fault_in c.args.self.now.place (c.args.self.now.octets ++ c.args.piece.now) ≡ Some c.in-Some.refusal =
    fault_now l ∙ (ap (fault_of c.self.inside.place) (sym c.size_of-size.ensures)
    ∙ (sym c.fault_of.ensures ∙ c.in-Some.is)) in
    let wrong : fault_of c.self.inside.place (number c.lengthened-more.result.0) ≡ Some c.in-Some.refusal =
    sym (fault_now l) ∙ found in
    let same : Some c.in-Some.refusal ≡ Some refusal = sym found ∙ is in
    let equal : c.in-Some.refusal ≡ refusal = cc in
    (ap Err equal, refused l c.in-Some.refusal wrong)

pub returns-in-Some-clause-fault : goal.returns-in-Some-clause-fault
returns-in-Some-clause-fault c =
    let l : Long c.args.self.now c.self.inside.place c.self.inside.filled c.lengthened-more.result.1 c.self.inside.size
    c.self.inside.apdu.items c.args.piece.now c.lengthened-more.result.0 = record {
      fields = record {
        four = c.self.invariant.0;
        within = c.self.invariant.1;
        none_yet = c.self.invariant.2;
        some =
            c.self.invariant.3;
      };
      view = c.self.view_is;
      whole = omega arith;
      four = search rules;
      is = c.lengthened-more.ensures.octets;
      count = c.lengthened-more.ensures.count;
    } in
    let found : fault_in c.args.self.now.place (c.args.self.now.octets ++ c.args.piece.now) ≡ Some c.in-Some.refusal =
    fault_now l ∙ (ap (fault_of c.self.inside.place) (sym c.size_of-size.ensures)
    ∙ (sym c.fault_of.ensures ∙ c.in-Some.is)) in
    inr found

pub returns-in_err-append-clause-nothing : goal.returns-in_err-append-clause-nothing
returns-in_err-append-clause-nothing c =
    let l : Long c.args.self.now c.self.inside.place c.self.inside.filled c.lengthened-more.result.1 c.self.inside.size
    c.self.inside.apdu.items c.args.piece.now c.lengthened-more.result.0 = record {
      fields = record {
        four = c.self.invariant.0;
        within = c.self.invariant.1;
        none_yet = c.self.invariant.2;
        some =
            c.self.invariant.3;
      };
      view = c.self.view_is;
      whole = omega arith;
      four = search rules;
      is = c.lengthened-more.ensures.octets;
      count = c.lengthened-more.ensures.count;
    } in
    let due : c.min-due.result ≡ min (length (drop c.lengthened-more.result.1 c.args.piece.now))
    (number c.lengthened-more.result.0 - length c.self.inside.apdu.items) =
    due_is c.args.piece.now c.self.inside.apdu.items c.lengthened-more.result.0 c.lengthened-more.result.1
    c.min-due.result
    c.size_of-size.result _ c.min-due.ensures c.size_of-size.ensures (ap length c.as_slice.ensures.value) in (
      λ e. absurd (true_not_false (sym (subst IsErr e c.from_residual.ensures.0))),
      λ p. absurd (no_fewer c.min-due.result _ (due ∙ (nothing_taken l p.1).1) c.in_err-append.ensures.some),
    )

pub returns-in_err-append-clause-faulty : goal.returns-in_err-append-clause-faulty
returns-in_err-append-clause-faulty c = λ refusal is.
    let l : Long c.args.self.now c.self.inside.place c.self.inside.filled c.lengthened-more.result.1 c.self.inside.size
    c.self.inside.apdu.items c.args.piece.now c.lengthened-more.result.0 = record {
      fields = record {
        four = c.self.invariant.0;
        within = c.self.invariant.1;
        none_yet = c.self.invariant.2;
        some =
            c.self.invariant.3;
      };
      view = c.self.view_is;
      whole = omega arith;
      four = search rules;
      is = c.lengthened-more.ensures.octets;
      count = c.lengthened-more.ensures.count;
    } in
    let right : fault_of c.self.inside.place (number c.lengthened-more.result.0) ≡ None =
    ap (fault_of c.self.inside.place) (sym c.size_of-size.ensures) ∙ (sym c.fault_of.ensures ∙ c.in-None.is) in
    let sound : fault_in c.args.self.now.place (c.args.self.now.octets ++ c.args.piece.now) ≡ None =
    fault_now l ∙ right in
    absurd (cc)

pub returns-in_err-append-clause-again : goal.returns-in_err-append-clause-again
returns-in_err-append-clause-again c = λ refusal is.
    let l : Long c.args.self.now c.self.inside.place c.self.inside.filled c.lengthened-more.result.1 c.self.inside.size
    c.self.inside.apdu.items c.args.piece.now c.lengthened-more.result.0 = record {
      fields = record {
        four = c.self.invariant.0;
        within = c.self.invariant.1;
        none_yet = c.self.invariant.2;
        some =
            c.self.invariant.3;
      };
      view = c.self.view_is;
      whole = omega arith;
      four = search rules;
      is = c.lengthened-more.ensures.octets;
      count = c.lengthened-more.ensures.count;
    } in
    let right : fault_of c.self.inside.place (number c.lengthened-more.result.0) ≡ None =
    ap (fault_of c.self.inside.place) (sym c.size_of-size.ensures) ∙ (sym c.fault_of.ensures ∙ c.in-None.is) in
    let before = sound_before l right in
    absurd (cc)

pub returns-clause-taken : goal.returns-clause-taken
returns-clause-taken c =
    let l : Long c.args.self.now c.self.inside.place c.self.inside.filled c.lengthened-more.result.1 c.self.inside.size
    c.self.inside.apdu.items c.args.piece.now c.lengthened-more.result.0 = record {
      fields = record {
        four = c.self.invariant.0;
        within = c.self.invariant.1;
        none_yet = c.self.invariant.2;
        some =
            c.self.invariant.3;
      };
      view = c.self.view_is;
      whole = omega arith;
      four = search rules;
      is = c.lengthened-more.ensures.octets;
      count = c.lengthened-more.ensures.count;
    } in
    let due : c.min-due.result ≡ min (length (drop c.lengthened-more.result.1 c.args.piece.now))
    (number c.lengthened-more.result.0 - length c.self.inside.apdu.items) =
    due_is c.args.piece.now c.self.inside.apdu.items c.lengthened-more.result.0 c.lengthened-more.result.1
    c.min-due.result
    c.size_of-size.result _ c.min-due.ensures c.size_of-size.ensures (ap length c.as_slice.ensures.value) in
    fed l c.min-due.result c.append.new.into.items due (c.in_ok-append.ensures.items
    ∙ ap (λ xs. c.self.inside.apdu.items ++ take c.min-due.result xs)
    (take_rest c.args.piece.now c.lengthened-more.result.1))

pub returns-clause-nothing : goal.returns-clause-nothing
returns-clause-nothing c =
    let l : Long c.args.self.now c.self.inside.place c.self.inside.filled c.lengthened-more.result.1 c.self.inside.size
    c.self.inside.apdu.items c.args.piece.now c.lengthened-more.result.0 = record {
      fields = record {
        four = c.self.invariant.0;
        within = c.self.invariant.1;
        none_yet = c.self.invariant.2;
        some =
            c.self.invariant.3;
      };
      view = c.self.view_is;
      whole = omega arith;
      four = search rules;
      is = c.lengthened-more.ensures.octets;
      count = c.lengthened-more.ensures.count;
    } in
    let right : fault_of c.self.inside.place (number c.lengthened-more.result.0) ≡ None =
    ap (fault_of c.self.inside.place) (sym c.size_of-size.ensures) ∙ (sym c.fault_of.ensures ∙ c.in-None.is) in
    let due : c.min-due.result ≡ min (length (drop c.lengthened-more.result.1 c.args.piece.now))
    (number c.lengthened-more.result.0 - length c.self.inside.apdu.items) =
    due_is c.args.piece.now c.self.inside.apdu.items c.lengthened-more.result.0 c.lengthened-more.result.1
    c.min-due.result
    c.size_of-size.result _ c.min-due.ensures c.size_of-size.ensures (ap length c.as_slice.ensures.value) in
    let more = c.lengthened-more.result.1 in (
      λ e.
          let nothing : more + c.min-due.result ≡ 0 = cc in
          (sound_before l right, none_taken l (ap (λ n. more + n) (sym due) ∙ nothing) right),
      λ p. let t = nothing_taken l p.1 in ap Ok (ap (λ n. more + n) due ∙ omega (arith, t.0, t.1)),
    )

pub returns-clause-sound : goal.returns-clause-sound
returns-clause-sound c =
    let l : Long c.args.self.now c.self.inside.place c.self.inside.filled c.lengthened-more.result.1 c.self.inside.size
    c.self.inside.apdu.items c.args.piece.now c.lengthened-more.result.0 = record {
      fields = record {
        four = c.self.invariant.0;
        within = c.self.invariant.1;
        none_yet = c.self.invariant.2;
        some =
            c.self.invariant.3;
      };
      view = c.self.view_is;
      whole = omega arith;
      four = search rules;
      is = c.lengthened-more.ensures.octets;
      count = c.lengthened-more.ensures.count;
    } in
    let right : fault_of c.self.inside.place (number c.lengthened-more.result.0) ≡ None =
    ap (fault_of c.self.inside.place) (sym c.size_of-size.ensures) ∙ (sym c.fault_of.ensures ∙ c.in-None.is) in
    let sound : fault_in c.args.self.now.place (c.args.self.now.octets ++ c.args.piece.now) ≡ None =
    fault_now l ∙ right in
    sound

pub returns-clause-faulty : goal.returns-clause-faulty
returns-clause-faulty c = λ refusal is.
    let l : Long c.args.self.now c.self.inside.place c.self.inside.filled c.lengthened-more.result.1 c.self.inside.size
    c.self.inside.apdu.items c.args.piece.now c.lengthened-more.result.0 = record {
      fields = record {
        four = c.self.invariant.0;
        within = c.self.invariant.1;
        none_yet = c.self.invariant.2;
        some =
            c.self.invariant.3;
      };
      view = c.self.view_is;
      whole = omega arith;
      four = search rules;
      is = c.lengthened-more.ensures.octets;
      count = c.lengthened-more.ensures.count;
    } in
    let right : fault_of c.self.inside.place (number c.lengthened-more.result.0) ≡ None =
    ap (fault_of c.self.inside.place) (sym c.size_of-size.ensures) ∙ (sym c.fault_of.ensures ∙ c.in-None.is) in
    let sound : fault_in c.args.self.now.place (c.args.self.now.octets ++ c.args.piece.now) ≡ None =
    fault_now l ∙ right in
    absurd (cc)

pub returns-clause-again : goal.returns-clause-again
returns-clause-again c = λ refusal is.
    let l : Long c.args.self.now c.self.inside.place c.self.inside.filled c.lengthened-more.result.1 c.self.inside.size
    c.self.inside.apdu.items c.args.piece.now c.lengthened-more.result.0 = record {
      fields = record {
        four = c.self.invariant.0;
        within = c.self.invariant.1;
        none_yet = c.self.invariant.2;
        some =
            c.self.invariant.3;
      };
      view = c.self.view_is;
      whole = omega arith;
      four = search rules;
      is = c.lengthened-more.ensures.octets;
      count = c.lengthened-more.ensures.count;
    } in
    let right : fault_of c.self.inside.place (number c.lengthened-more.result.0) ≡ None =
    ap (fault_of c.self.inside.place) (sym c.size_of-size.ensures) ∙ (sym c.fault_of.ensures ∙ c.in-None.is) in
    let before = sound_before l right in
    absurd (cc)
