-- Each promise of this crate, by its theorem.
use Rattle.reading.specs.Promises.{Promises}
use Rattle.reading.proofs.Basics.Results.{results_settled}
use Rattle.reading.proofs.Accepting.Accepted.{accepts_encodings, one_rule, answers_accepted}
use Rattle.reading.proofs.Refusing.FaultsRefused.{refuses_at_the_fault, has_one_fault}
use Rattle.reading.proofs.Refusing.PatternFaults.{refuses_pattern}
use Rattle.reading.proofs.Numbering.NumberedLaws.{numbers_nodes, numbers_patterns}
use Rattle.reading.proofs.Settling.Prefix.{settled_by_first_bytes, not_by_fewer}
use Rattle.reading.proofs.Measures.Bits.{binary_digits}
use Rattle.reading.proofs.Measures.Extents.{covers_means, measures_pattern, told_by_set}
use Rattle.reading.proofs.Measures.Rings.{goes_round}
use Rattle.reading.proofs.Measures.SlotSets.{measures_slots}
use Rattle.reading.proofs.Measures.SlotTable.{words_of_slots}
use Rattle.reading.proofs.Measures.TwoEnds.{sets_of_slots}

pub promises : Promises
promises = record {
  accepts_encodings = accepts_encodings;
  one_rule = one_rule;
  answers_accepted = answers_accepted;
  refuses_at_the_fault = refuses_at_the_fault;
  has_one_fault = has_one_fault;
  refuses_pattern = refuses_pattern;
  numbers_nodes = numbers_nodes;
  numbers_patterns = numbers_patterns;
  settled_by_first_bytes = settled_by_first_bytes;
  not_by_fewer = not_by_fewer;
  binary_digits = binary_digits;
  covers_means = covers_means;
  goes_round = goes_round;
  measures_pattern = measures_pattern;
  words_of_slots = words_of_slots;
  sets_of_slots = sets_of_slots;
  measures_slots = measures_slots;
  told_by_set = told_by_set;
  results_settled = results_settled;
}
