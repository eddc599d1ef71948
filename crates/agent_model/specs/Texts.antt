-- The texts of a journal and of what it comes to; docs/PROFILE.md, section 5. Each line ends in a line feed.
use Rattle.std.specs.Prelude.{ℕ, ◌+◌, List, [], ◌∷◌, ◌++◌, codes, decimal, length, flat_map}
use Rattle.hex.specs.Hex.{encode_upper}
use Rattle.agent_model.specs.declared.agent_state.AgentState.{AgentState}
use Rattle.agent_model.specs.declared.agent_state.Association.{Association}
use Rattle.agent_model.specs.declared.entry.Entry.{Entry}
use Rattle.agent_model.specs.declared.entry.Entry.TheVariants as entry
use Rattle.agent_model.specs.declared.entry.Why.{Why}
use Rattle.agent_model.specs.declared.entry.Why.TheVariants as why
use Rattle.agent_model.specs.LogNames.{log_octets}
use Rattle.term_model.specs.LineTexts.{line_feed, one_word, two_words}

-- the line of two dashes between a journal and what it comes to
abbrev pub separator : List ℕ
separator = 45 ∷ 45 ∷ line_feed

abbrev pub cause_text : Why → List ℕ
cause_text why.End = codes "end"
cause_text (why.BadFrame at) = codes "badframe " ++ decimal at
cause_text why.ReadFault = codes "readfault"
cause_text why.WriteFault = codes "writefault"
cause_text why.JournalFull = codes "journalfull"
cause_text why.Memory = codes "memory"

abbrev pub line : Entry → List ℕ
line (entry.Opened number bind) = two_words (codes "opened ") number (encode_upper bind)
line (entry.Arrived number apdu) = two_words (codes "arrived ") number (encode_upper apdu)
line (entry.Begun number log) = two_words (codes "begun ") number (encode_upper (log_octets log))
line (entry.Granted number moment) = two_words (codes "granted ") number (decimal moment)
line (entry.Committed number) = one_word (codes "committed ") number
line (entry.Starved number) = one_word (codes "starved ") number
line (entry.Taken number count) = two_words (codes "taken ") number (decimal count)
line (entry.Finished number) = one_word (codes "finished ") number
line (entry.Closed number cause) = two_words (codes "closed ") number (cause_text cause)

abbrev pub journal_text : List Entry → List ℕ
journal_text journal = flat_map line journal

-- the bytes that were placed for an association, or a dash where there are none
abbrev pub placed_text : List ℕ → List ℕ
placed_text [] = codes "-"
placed_text (byte ∷ bytes) = encode_upper (byte ∷ bytes)

-- a line for each association, from this number on
abbrev pub out_lines : ℕ → List Association → List ℕ
out_lines number [] = []
out_lines number (a ∷ others) = two_words (codes "out ") number (placed_text a.placed) ++ out_lines (number + 1) others

abbrev pub objects_line : ℕ → List ℕ
objects_line count = one_word (codes "objects ") count

-- what the agent placed for each association, and how many objects it has
abbrev pub outs : AgentState → List ℕ
outs agent = out_lines 1 agent.associations ++ objects_line (length agent.objects)
