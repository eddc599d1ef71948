-- Of what was noted before and this text the first is kept.
use Rattle.filled_syntaxes.proofs.NotingTexts.{one_text}
use Rattle.filled_syntaxes.proofs.bad_texts.BadTexts.note.Goals as goal

pub returns : goal.returns
returns c = one_text c.args.self.now.first (record { document = c.args.document; token = c.args.token })
    c.earlier_text.result c.earlier_text.ensures.one c.earlier_text.ensures.no_later c.earlier_text.ensures.least
