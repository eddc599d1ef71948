-- What is asked for, as the definition of a creation has it: X.711, section 7.4, m-Create.
use Rattle.term_model.specs.Creating.{Asking as AskingFor}
use Rattle.op_life.specs.declared.asking.Asking.{Asking}

abbrev pub asking_view : Asking → AskingFor
asking_view asking = record {
  class = asking.class;
  instance = asking.instance;
  reference = asking.reference;
  given = asking.given;
  clause = asking.clause;
}
