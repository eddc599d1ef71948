-- The laws of specs/ApduLaws on what is read, proved: what is read is the tree of an APDU, and that denotes it.
use Rattle.std.proofs.Common.{sym, ap, ◌∙◌, subst}
use Rattle.term_values.specs.Tree.{TreeValue}
use Rattle.term_model.specs.Apdu.{IsApdu}
use Rattle.term_model.specs.ApduReading.{apdu_of}
use Rattle.rose_frames.specs.ApduLaws.{ApduIsRead, ReadIsApdu}
use Rattle.rose_frames.proofs.ApduDenoted.{tree_denoted}
use Rattle.rose_frames.proofs.ApduDenoting.{sound_denotes}
use Rattle.rose_frames.proofs.ApduTold.{tree_told}
use Rattle.rose_frames.proofs.ApduTrees.{tree_read}

pub read_is_apdu_holds : ReadIsApdu
read_is_apdu_holds tree apdu h e =
    let t = tree_told tree apdu h e in
    subst (λ (x : TreeValue). IsApdu x apdu) (sym t.0) (sound_denotes apdu t.1)

pub apdu_is_read_holds : ApduIsRead
apdu_is_read_holds tree apdu a = let t = tree_denoted tree apdu a in ap apdu_of t.0 ∙ tree_read apdu t.1
