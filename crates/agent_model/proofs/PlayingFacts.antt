-- Examples of scripts, computed: docs/PROFILE.md, sections 5 and 7.
use Rattle.std.specs.Prelude.{◌≡◌, ℕ, pos, true, List, [], ◌∷◌, ◌++◌, Result, Ok, Err, drop, refl}
use Rattle.std.specs.Option.{option_map_or}
use Rattle.std.specs.Fmt.{digits}
use Rattle.term_values.specs.BerReading.{front_of, identifier_of, length_at}
use Rattle.term_values.specs.Der.{identifier_octets, length_octets}
use Rattle.term_values.specs.Moment.{date_from, date_in_year, moment_text}
use Rattle.term_values.specs.Octets.{integer_contents, integer_in}
use Rattle.term_values.specs.Oid.{oid_in, subidentifier}
use Rattle.term_values.specs.Typed.TypedValue.{Int}
use Rattle.agent_model.specs.declared.agent_state.AgentState.{AgentState}
use Rattle.agent_model.specs.declared.agent_state.Association.{Association}
use Rattle.agent_model.specs.declared.entry.Entry.{Entry}
use Rattle.agent_model.specs.declared.entry.Entry.TheVariants as entry
use Rattle.agent_model.specs.declared.entry.Why.TheVariants as why
use Rattle.term_model.specs.declared.name.Rdn.{Rdn}
use Rattle.term_model.specs.declared.objects.NamedObject.{NamedObject}
use Rattle.agent_model.specs.AgentLimits.{shipped}
use Rattle.agent_model.specs.AgentState.{association_of}
use Rattle.agent_model.specs.Played.{Play}
use Rattle.term_model.specs.SentApdus.{sent_reply}
use Rattle.term_model.proofs.ExampleNetwork.{element, id_oid, load_value, network}
use Rattle.agent_model.specs.declared.script_line.ScriptLine.{ScriptLine}
use Rattle.agent_model.specs.declared.script_line.ScriptLine.TheVariants as line
use Rattle.agent_model.specs.Journals.{is_legal_journal, out}
use Rattle.agent_model.specs.Playing.{ended, frames_of, played}
use Rattle.agent_model.specs.Starting.{started}
use Rattle.agent_model.specs.Stepping.{step}

abbrev first_agent : AgentState
first_agent = started network shipped (record { name = []; object = element } ∷ [])

-- title 2.999.11.1, and an m-Get of the root with the invoke id 1
abbrev bind_octets : List ℕ
bind_octets = 0x30 ∷ 0x06 ∷ 0x06 ∷ 0x04 ∷ 0x88 ∷ 0x37 ∷ 0x0B ∷ 0x01 ∷ []

abbrev get_root : List ℕ
get_root =
    0xA1 ∷ 0x10 ∷ 0x02 ∷ 0x01 ∷ 0x01 ∷ 0x02 ∷ 0x01 ∷ 0x03 ∷ 0x30 ∷ 0x08 ∷ 0x80 ∷ 0x04 ∷ 0x88 ∷ 0x37 ∷ 0x03 ∷ 0x01 ∷
    0xA4 ∷ 0x00 ∷ []

-- the journal of a whole script, and its agent, or the number of the line that may not stand
abbrev ended_where : Result Play ℕ → Result (List Entry) ℕ
ended_where (Ok play) = Ok (ended play).journal
ended_where (Err number) = Err number

abbrev whole : AgentState → List ScriptLine → Result (List Entry) ℕ
whole agent script = ended_where (played agent script)

-- the journal of the script that asks once, at the time 0
abbrev asks_once : List ScriptLine
asks_once = line.Open bind_octets ∷ line.Send 1 get_root ∷ []

abbrev journal_of_one : List Entry
journal_of_one =
    entry.Opened 1 bind_octets ∷ entry.Taken 1 12 ∷ entry.Arrived 1 get_root ∷ entry.Granted 1 0 ∷ entry.Committed 1 ∷
    entry.Taken 1 65 ∷ entry.Finished 1 ∷ entry.Closed 1 why.End ∷ []

journal_is : whole first_agent asks_once ≡ Ok journal_of_one
unfolding step sent_reply oid_in subidentifier integer_in integer_contents identifier_octets length_octets identifier_of
    length_at front_of moment_text date_from date_in_year digits
journal_is = refl

journal_is_legal : is_legal_journal first_agent journal_of_one ≡ true
unfolding step sent_reply oid_in subidentifier integer_in integer_contents identifier_octets length_octets identifier_of
    length_at front_of moment_text date_from date_in_year digits
journal_is_legal = refl

-- and what its association is sent: the answer to the BIND, and a result with the time 19700101000000Z and the values 1
-- and 7
out_is : out first_agent 1 journal_of_one ≡
    0x00 ∷ 0x00 ∷ 0x00 ∷ 0x08 ∷ 0x30 ∷ 0x06 ∷ 0x0A ∷ 0x01 ∷ 0x00 ∷ 0x02 ∷ 0x01 ∷ 0x01 ∷ 0x00 ∷ 0x00 ∷ 0x00 ∷
    0x3D ∷ 0xA2 ∷ 0x3B ∷ 0x02 ∷ 0x01 ∷ 0x01 ∷ 0x30 ∷ 0x36 ∷ 0x02 ∷ 0x01 ∷ 0x03 ∷ 0x30 ∷ 0x31 ∷ 0x80 ∷ 0x04 ∷
    0x88 ∷ 0x37 ∷ 0x03 ∷ 0x01 ∷ 0xA4 ∷ 0x00 ∷ 0x85 ∷ 0x0F ∷ 0x31 ∷ 0x39 ∷ 0x37 ∷ 0x30 ∷ 0x30 ∷ 0x31 ∷ 0x30 ∷
    0x31 ∷ 0x30 ∷ 0x30 ∷ 0x30 ∷ 0x30 ∷ 0x30 ∷ 0x30 ∷ 0x5A ∷ 0xA6 ∷ 0x16 ∷ 0x30 ∷ 0x09 ∷ 0x80 ∷ 0x04 ∷ 0x88 ∷
    0x37 ∷ 0x07 ∷ 0x01 ∷ 0x02 ∷ 0x01 ∷ 0x01 ∷ 0x30 ∷ 0x09 ∷ 0x80 ∷ 0x04 ∷ 0x88 ∷ 0x37 ∷ 0x07 ∷ 0x02 ∷ 0x02 ∷
    0x01 ∷ 0x07 ∷ []
unfolding step sent_reply oid_in subidentifier integer_in integer_contents identifier_octets length_octets identifier_of
    length_at front_of moment_text date_from date_in_year digits
out_is = refl

-- of two associations with one title the second one is turned away, and so finished; it ends where its line says, and
-- the first one with the script
abbrev two_managers : List ScriptLine
two_managers =
    line.At 100 ∷ line.Open bind_octets ∷ line.Open bind_octets ∷ line.End 2 ∷ line.Send 1 get_root ∷ []

abbrev journal_of_two : List Entry
journal_of_two =
    entry.Opened 1 bind_octets ∷ entry.Taken 1 12 ∷ entry.Opened 2 bind_octets ∷ entry.Taken 2 12 ∷
    entry.Closed 2 why.End ∷ entry.Arrived 1 get_root ∷ entry.Granted 1 100 ∷ entry.Committed 1 ∷ entry.Taken 1 65 ∷
    entry.Finished 1 ∷ entry.Closed 1 why.End ∷ []

two_are_played : whole first_agent two_managers ≡ Ok journal_of_two
unfolding step sent_reply oid_in subidentifier integer_in integer_contents identifier_octets length_octets identifier_of
    length_at front_of moment_text date_from date_in_year digits
two_are_played = refl

-- the frames that its lines bring
frames_of_first : frames_of 1 0 two_managers ≡ bind_octets ∷ get_root ∷ []
frames_of_first = refl

frames_of_second : frames_of 2 0 two_managers ≡ bind_octets ∷ []
frames_of_second = refl

frames_of_third : frames_of 3 0 two_managers ≡ []
frames_of_third = refl

-- no line sends to an association that isn't opened, and none to one that is finished
first_line_sends : whole first_agent (line.Send 1 (0x30 ∷ 0x00 ∷ []) ∷ []) ≡ Err 1
first_line_sends = refl

sends_when_finished : whole first_agent
    (line.Open bind_octets ∷ line.Open bind_octets ∷ line.Send 2 get_root ∷ []) ≡ Err 3
unfolding step oid_in subidentifier integer_contents identifier_octets length_octets identifier_of length_at front_of
sends_when_finished = refl

ends_before_it_opens : whole first_agent (line.At 5 ∷ line.End 1 ∷ []) ≡ Err 2
ends_before_it_opens = refl

-- a time past the last one of a journal is taken as that one
abbrev moment_where : Result Play ℕ → Result ℕ ℕ
moment_where (Ok play) = Ok play.moment
moment_where (Err number) = Err number

abbrev moment_after : List ScriptLine → Result ℕ ℕ
moment_after script = moment_where (played first_agent script)

latest : moment_after (line.At 253370764800 ∷ []) ≡ Ok 253370764799
latest = refl

-- the bytes that a script brings its first association, behind the answer to its BIND
abbrev bytes_where : Result Play ℕ → Result (List ℕ) ℕ
bytes_where (Ok play) =
    Ok (option_map_or (λ (a : Association). drop 12 a.placed) (association_of (ended play).agent 1) [])
bytes_where (Err number) = Err number

abbrev answers_to : AgentState → List ℕ → Result (List ℕ) ℕ
answers_to agent apdu = bytes_where (played agent (line.Open bind_octets ∷ line.Send 1 apdu ∷ []))

-- the root, and below it the object elementId = 5
abbrev name_of_five : List Rdn
name_of_five = record { attribute = id_oid; value = 0x02 ∷ 0x01 ∷ 0x05 ∷ [] } ∷ []

abbrev five : NamedObject
five = record {
  name = name_of_five;
  object = record element { attrs = record { id = id_oid; value = Int (pos 5) } ∷ load_value ∷ [] };
}

abbrev with_five : AgentState
with_five = record first_agent { objects = first_agent.objects ++ five ∷ [] }

-- an m-Get of the object 5
abbrev get_five : List ℕ
get_five =
    0xA1 ∷ 0x1D ∷ 0x02 ∷ 0x01 ∷ 0x01 ∷ 0x02 ∷ 0x01 ∷ 0x03 ∷ 0x30 ∷ 0x15 ∷ 0x80 ∷ 0x04 ∷ 0x88 ∷ 0x37 ∷ 0x03 ∷
    0x01 ∷ 0xA4 ∷ 0x0D ∷ 0x31 ∷ 0x0B ∷ 0x30 ∷ 0x09 ∷ 0x06 ∷ 0x04 ∷ 0x88 ∷ 0x37 ∷ 0x07 ∷ 0x01 ∷ 0x02 ∷ 0x01 ∷
    0x05 ∷ []

abbrev result_of_five : List ℕ
result_of_five =
    0x00 ∷ 0x00 ∷ 0x00 ∷ 0x4A ∷ 0xA2 ∷ 0x48 ∷ 0x02 ∷ 0x01 ∷ 0x01 ∷ 0x30 ∷ 0x43 ∷ 0x02 ∷ 0x01 ∷ 0x03 ∷ 0x30 ∷
    0x3E ∷ 0x80 ∷ 0x04 ∷ 0x88 ∷ 0x37 ∷ 0x03 ∷ 0x01 ∷ 0xA4 ∷ 0x0D ∷ 0x31 ∷ 0x0B ∷ 0x30 ∷ 0x09 ∷ 0x06 ∷ 0x04 ∷
    0x88 ∷ 0x37 ∷ 0x07 ∷ 0x01 ∷ 0x02 ∷ 0x01 ∷ 0x05 ∷ 0x85 ∷ 0x0F ∷ 0x31 ∷ 0x39 ∷ 0x37 ∷ 0x30 ∷ 0x30 ∷ 0x31 ∷
    0x30 ∷ 0x31 ∷ 0x30 ∷ 0x30 ∷ 0x30 ∷ 0x30 ∷ 0x30 ∷ 0x30 ∷ 0x5A ∷ 0xA6 ∷ 0x16 ∷ 0x30 ∷ 0x09 ∷ 0x80 ∷ 0x04 ∷
    0x88 ∷ 0x37 ∷ 0x07 ∷ 0x01 ∷ 0x02 ∷ 0x01 ∷ 0x05 ∷ 0x30 ∷ 0x09 ∷ 0x80 ∷ 0x04 ∷ 0x88 ∷ 0x37 ∷ 0x07 ∷ 0x02 ∷
    0x02 ∷ 0x01 ∷ 0x07 ∷ []

five_is_told : answers_to with_five get_five ≡ Ok result_of_five
unfolding step sent_reply oid_in subidentifier integer_in integer_contents identifier_octets length_octets identifier_of
    length_at front_of moment_text date_from date_in_year digits
five_is_told = refl

-- an m-Get of the whole subtree: a linked reply for each object, and an empty result
abbrev get_all : List ℕ
get_all =
    0xA1 ∷ 0x15 ∷ 0x02 ∷ 0x01 ∷ 0x02 ∷ 0x02 ∷ 0x01 ∷ 0x03 ∷ 0x30 ∷ 0x0D ∷ 0x80 ∷ 0x04 ∷ 0x88 ∷ 0x37 ∷ 0x03 ∷
    0x01 ∷ 0xA4 ∷ 0x00 ∷ 0xA7 ∷ 0x03 ∷ 0x02 ∷ 0x01 ∷ 0x02 ∷ []

abbrev results_of_all : List ℕ
results_of_all =
    0x00 ∷ 0x00 ∷ 0x00 ∷ 0x3E ∷ 0xA1 ∷ 0x3C ∷ 0x02 ∷ 0x01 ∷ 0x01 ∷ 0x80 ∷ 0x01 ∷ 0x02 ∷ 0x02 ∷ 0x01 ∷ 0x02 ∷
    0xA0 ∷ 0x31 ∷ 0x80 ∷ 0x04 ∷ 0x88 ∷ 0x37 ∷ 0x03 ∷ 0x01 ∷ 0xA4 ∷ 0x00 ∷ 0x85 ∷ 0x0F ∷ 0x31 ∷ 0x39 ∷ 0x37 ∷
    0x30 ∷ 0x30 ∷ 0x31 ∷ 0x30 ∷ 0x31 ∷ 0x30 ∷ 0x30 ∷ 0x30 ∷ 0x30 ∷ 0x30 ∷ 0x30 ∷ 0x5A ∷ 0xA6 ∷ 0x16 ∷ 0x30 ∷
    0x09 ∷ 0x80 ∷ 0x04 ∷ 0x88 ∷ 0x37 ∷ 0x07 ∷ 0x01 ∷ 0x02 ∷ 0x01 ∷ 0x01 ∷ 0x30 ∷ 0x09 ∷ 0x80 ∷ 0x04 ∷ 0x88 ∷
    0x37 ∷ 0x07 ∷ 0x02 ∷ 0x02 ∷ 0x01 ∷ 0x07 ∷ 0x00 ∷ 0x00 ∷ 0x00 ∷ 0x4B ∷ 0xA1 ∷ 0x49 ∷ 0x02 ∷ 0x01 ∷ 0x02 ∷
    0x80 ∷ 0x01 ∷ 0x02 ∷ 0x02 ∷ 0x01 ∷ 0x02 ∷ 0xA0 ∷ 0x3E ∷ 0x80 ∷ 0x04 ∷ 0x88 ∷ 0x37 ∷ 0x03 ∷ 0x01 ∷ 0xA4 ∷
    0x0D ∷ 0x31 ∷ 0x0B ∷ 0x30 ∷ 0x09 ∷ 0x06 ∷ 0x04 ∷ 0x88 ∷ 0x37 ∷ 0x07 ∷ 0x01 ∷ 0x02 ∷ 0x01 ∷ 0x05 ∷ 0x85 ∷
    0x0F ∷ 0x31 ∷ 0x39 ∷ 0x37 ∷ 0x30 ∷ 0x30 ∷ 0x31 ∷ 0x30 ∷ 0x31 ∷ 0x30 ∷ 0x30 ∷ 0x30 ∷ 0x30 ∷ 0x30 ∷ 0x30 ∷
    0x5A ∷ 0xA6 ∷ 0x16 ∷ 0x30 ∷ 0x09 ∷ 0x80 ∷ 0x04 ∷ 0x88 ∷ 0x37 ∷ 0x07 ∷ 0x01 ∷ 0x02 ∷ 0x01 ∷ 0x05 ∷ 0x30 ∷
    0x09 ∷ 0x80 ∷ 0x04 ∷ 0x88 ∷ 0x37 ∷ 0x07 ∷ 0x02 ∷ 0x02 ∷ 0x01 ∷ 0x07 ∷ 0x00 ∷ 0x00 ∷ 0x00 ∷ 0x05 ∷ 0xA2 ∷
    0x03 ∷ 0x02 ∷ 0x01 ∷ 0x02 ∷ []

all_are_told : answers_to with_five get_all ≡ Ok results_of_all
unfolding step sent_reply oid_in subidentifier integer_in integer_contents identifier_octets length_octets identifier_of
    length_at front_of moment_text date_from date_in_year digits
all_are_told = refl

-- with the empty `or` as its filter it selects none
abbrev get_none : List ℕ
get_none =
    0xA1 ∷ 0x17 ∷ 0x02 ∷ 0x01 ∷ 0x02 ∷ 0x02 ∷ 0x01 ∷ 0x03 ∷ 0x30 ∷ 0x0F ∷ 0x80 ∷ 0x04 ∷ 0x88 ∷ 0x37 ∷ 0x03 ∷
    0x01 ∷ 0xA4 ∷ 0x00 ∷ 0xA7 ∷ 0x03 ∷ 0x02 ∷ 0x01 ∷ 0x02 ∷ 0xAA ∷ 0x00 ∷ []

abbrev empty_result : List ℕ
empty_result =
    0x00 ∷ 0x00 ∷ 0x00 ∷ 0x05 ∷ 0xA2 ∷ 0x03 ∷ 0x02 ∷ 0x01 ∷ 0x02 ∷ []

none_is_told : answers_to with_five get_none ≡ Ok empty_result
unfolding step sent_reply oid_in subidentifier integer_in integer_contents identifier_octets length_octets identifier_of
    length_at front_of moment_text date_from date_in_year digits
none_is_told = refl

-- an m-Set without confirmation, load replaced by 10: nothing is sent for it, and an m-Get tells 10
abbrev set_load : List ℕ
set_load =
    0xA1 ∷ 0x1D ∷ 0x02 ∷ 0x01 ∷ 0x02 ∷ 0x02 ∷ 0x01 ∷ 0x04 ∷ 0x30 ∷ 0x15 ∷ 0x80 ∷ 0x04 ∷ 0x88 ∷ 0x37 ∷ 0x03 ∷
    0x01 ∷ 0xA4 ∷ 0x00 ∷ 0xAC ∷ 0x0B ∷ 0x30 ∷ 0x09 ∷ 0x80 ∷ 0x04 ∷ 0x88 ∷ 0x37 ∷ 0x07 ∷ 0x02 ∷ 0x02 ∷ 0x01 ∷
    0x0A ∷ []

abbrev result_of_ten : List ℕ
result_of_ten =
    0x00 ∷ 0x00 ∷ 0x00 ∷ 0x3D ∷ 0xA2 ∷ 0x3B ∷ 0x02 ∷ 0x01 ∷ 0x01 ∷ 0x30 ∷ 0x36 ∷ 0x02 ∷ 0x01 ∷ 0x03 ∷ 0x30 ∷
    0x31 ∷ 0x80 ∷ 0x04 ∷ 0x88 ∷ 0x37 ∷ 0x03 ∷ 0x01 ∷ 0xA4 ∷ 0x00 ∷ 0x85 ∷ 0x0F ∷ 0x31 ∷ 0x39 ∷ 0x37 ∷ 0x30 ∷
    0x30 ∷ 0x31 ∷ 0x30 ∷ 0x31 ∷ 0x30 ∷ 0x30 ∷ 0x30 ∷ 0x30 ∷ 0x30 ∷ 0x30 ∷ 0x5A ∷ 0xA6 ∷ 0x16 ∷ 0x30 ∷ 0x09 ∷
    0x80 ∷ 0x04 ∷ 0x88 ∷ 0x37 ∷ 0x07 ∷ 0x01 ∷ 0x02 ∷ 0x01 ∷ 0x01 ∷ 0x30 ∷ 0x09 ∷ 0x80 ∷ 0x04 ∷ 0x88 ∷ 0x37 ∷
    0x07 ∷ 0x02 ∷ 0x02 ∷ 0x01 ∷ 0x0A ∷ []

load_is_set : bytes_where (played first_agent
    (line.Open bind_octets ∷ line.Send 1 set_load ∷ line.Send 1 get_root ∷ [])) ≡ Ok result_of_ten
unfolding step sent_reply oid_in subidentifier integer_in integer_contents identifier_octets length_octets identifier_of
    length_at front_of moment_text date_from date_in_year digits
load_is_set = refl

-- m-Cancel-Get in a script: nothing is outstanding at a line, so it is answered noSuchInvokeId
abbrev cancel : List ℕ
cancel =
    0xA1 ∷ 0x09 ∷ 0x02 ∷ 0x01 ∷ 0x08 ∷ 0x02 ∷ 0x01 ∷ 0x0A ∷ 0x02 ∷ 0x01 ∷ 0x07 ∷ []

abbrev no_such_invoke : List ℕ
no_such_invoke =
    0x00 ∷ 0x00 ∷ 0x00 ∷ 0x0B ∷ 0xA3 ∷ 0x09 ∷ 0x02 ∷ 0x01 ∷ 0x08 ∷ 0x02 ∷ 0x01 ∷ 0x16 ∷ 0x02 ∷ 0x01 ∷ 0x07 ∷ []

cancel_in_script : answers_to first_agent cancel ≡ Ok no_such_invoke
unfolding step sent_reply oid_in subidentifier integer_in integer_contents identifier_octets length_octets identifier_of
    length_at front_of moment_text date_from date_in_year digits
cancel_in_script = refl
