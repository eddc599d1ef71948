use Rattle.std.proofs.Common.{map}
use Rattle.std.proofs.Math.Path.{subst}
use Rattle.std.specs.Prelude.{string_bytes}
use Rattle.agent_bytes.specs.Told.{GainsPart}
use Rattle.agent_run.proofs.DoneLaws.{complete_of}
use Rattle.agent_run.proofs.Endings.{answered_listed, bad_document_of, bad_script_of, file_fault_of, journal_full_of}
use Rattle.agent_run.proofs.Endings.{not_built_of, too_large_of, usage_of, written_listed}
use Rattle.agent_run.proofs.running.agent.Goals as goal

pub returns-in-Ok-clause-statuses : goal.returns-in-Ok-clause-statuses
returns-in-Ok-clause-statuses g c = written_listed c.put_text.result c.put_text.ensures.status

pub returns-in-Err-clause-statuses : goal.returns-in-Err-clause-statuses
returns-in-Err-clause-statuses g c = answered_listed c.refuse.result c.in-Err.refusal c.refuse.ensures.status

pub returns-in-Err-clause-usage : goal.returns-in-Err-clause-usage
returns-in-Err-clause-usage g c =
    usage_of (g.F.Files.files c.args.files.now) (map string_bytes c.args.words.now)
    (g.F.Files.faults c.args.files.now) (g.F.Files.faults c.prepare.new.files)
    (g.O.Sink.faults c.args.out.now) (g.O.Sink.faults c.refuse.new.out)
    (g.O.Sink.contents c.args.out.now) (g.O.Sink.contents c.refuse.new.out) c.refuse.result c.in-Err.refusal
    (record { answered = c.refuse.ensures.status; cause = c.in-Err.ensures.cause; line = c.refuse.ensures.line })

pub returns-in-Err-clause-file_fault : goal.returns-in-Err-clause-file_fault
returns-in-Err-clause-file_fault g c =
    file_fault_of (g.F.Files.files c.args.files.now) (map string_bytes c.args.words.now)
    (g.F.Files.faults c.args.files.now) (g.F.Files.faults c.prepare.new.files)
    (g.O.Sink.faults c.args.out.now) (g.O.Sink.faults c.refuse.new.out)
    (g.O.Sink.contents c.args.out.now) (g.O.Sink.contents c.refuse.new.out) c.refuse.result c.in-Err.refusal
    (record { answered = c.refuse.ensures.status; cause = c.in-Err.ensures.cause; line = c.refuse.ensures.line })

pub returns-in-Err-clause-too_large : goal.returns-in-Err-clause-too_large
returns-in-Err-clause-too_large g c =
    too_large_of (g.F.Files.files c.args.files.now) (map string_bytes c.args.words.now)
    (g.F.Files.faults c.args.files.now) (g.F.Files.faults c.prepare.new.files)
    (g.O.Sink.faults c.args.out.now) (g.O.Sink.faults c.refuse.new.out)
    (g.O.Sink.contents c.args.out.now) (g.O.Sink.contents c.refuse.new.out) c.refuse.result c.in-Err.refusal
    (record { answered = c.refuse.ensures.status; cause = c.in-Err.ensures.cause; line = c.refuse.ensures.line })

pub returns-in-Err-clause-bad_document : goal.returns-in-Err-clause-bad_document
returns-in-Err-clause-bad_document g c =
    bad_document_of (g.F.Files.files c.args.files.now) (map string_bytes c.args.words.now)
    (g.F.Files.faults c.args.files.now) (g.F.Files.faults c.prepare.new.files)
    (g.O.Sink.faults c.args.out.now) (g.O.Sink.faults c.refuse.new.out)
    (g.O.Sink.contents c.args.out.now) (g.O.Sink.contents c.refuse.new.out) c.refuse.result c.in-Err.refusal
    (record { answered = c.refuse.ensures.status; cause = c.in-Err.ensures.cause; line = c.refuse.ensures.line })

pub returns-in-Err-clause-bad_script : goal.returns-in-Err-clause-bad_script
returns-in-Err-clause-bad_script g c =
    bad_script_of (g.F.Files.files c.args.files.now) (map string_bytes c.args.words.now)
    (g.F.Files.faults c.args.files.now) (g.F.Files.faults c.prepare.new.files)
    (g.O.Sink.faults c.args.out.now) (g.O.Sink.faults c.refuse.new.out)
    (g.O.Sink.contents c.args.out.now) (g.O.Sink.contents c.refuse.new.out) c.refuse.result c.in-Err.refusal
    (record { answered = c.refuse.ensures.status; cause = c.in-Err.ensures.cause; line = c.refuse.ensures.line })

pub returns-in-Err-clause-not_built : goal.returns-in-Err-clause-not_built
returns-in-Err-clause-not_built g c =
    not_built_of (g.F.Files.files c.args.files.now) (map string_bytes c.args.words.now)
    (g.F.Files.faults c.args.files.now) (g.F.Files.faults c.prepare.new.files)
    (g.O.Sink.faults c.args.out.now) (g.O.Sink.faults c.refuse.new.out)
    (g.O.Sink.contents c.args.out.now) (g.O.Sink.contents c.refuse.new.out) c.refuse.result c.in-Err.refusal
    (record { answered = c.refuse.ensures.status; cause = c.in-Err.ensures.cause; line = c.refuse.ensures.line })

pub returns-in-Err-clause-journal_full : goal.returns-in-Err-clause-journal_full
returns-in-Err-clause-journal_full g c =
    journal_full_of (g.F.Files.files c.args.files.now) (map string_bytes c.args.words.now)
    (g.F.Files.faults c.args.files.now) (g.F.Files.faults c.prepare.new.files)
    (g.O.Sink.faults c.args.out.now) (g.O.Sink.faults c.refuse.new.out)
    (g.O.Sink.contents c.args.out.now) (g.O.Sink.contents c.refuse.new.out) c.refuse.result c.in-Err.refusal
    (record { answered = c.refuse.ensures.status; cause = c.in-Err.ensures.cause; line = c.refuse.ensures.line })

pub returns-in-Err-clause-complete : goal.returns-in-Err-clause-complete
returns-in-Err-clause-complete g c =
    λ can quiet written.
    complete_of (g.F.Files.files c.args.files.now) (map string_bytes c.args.words.now)
    (g.F.Files.faults c.args.files.now) (g.F.Files.faults c.prepare.new.files) c.refuse.result c.in-Err.refusal
    c.refuse.ensures.status c.in-Err.ensures.cause can quiet

pub returns-in-Ok-clause-write_fault : goal.returns-in-Ok-clause-write_fault
returns-in-Ok-clause-write_fault g c = λ e. record {
  rose = c.put_text.ensures.fault e;
  text = c.in-Ok.text.items;
  part =
      subst (λ text. GainsPart (g.O.Sink.contents c.args.out.now) (g.O.Sink.contents c.put_text.new.out) text)
      c.deref.ensures.value (c.put_text.ensures.part e);
  text_is = c.in-Ok.ensures.text;
}
