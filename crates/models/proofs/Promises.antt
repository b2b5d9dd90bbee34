-- Each promise of this crate, by its theorem.
use Rattle.models.specs.Promises.{Promises}
use Rattle.models.proofs.Judgments.TablesEnforce.{tables_enforce, short_tables_enforce, monitor_tables_enforce, short_bisimilar}
use Rattle.models.proofs.Phones.DecidedSets.{decided_satisfies}
use Rattle.models.proofs.Judgments.JudgingOrder.{judges_in_order}
use Rattle.models.proofs.Judgments.JudgingLaws.{judges_exactly, refused_unchanged}
use Rattle.models.proofs.Judgments.MeetingAlike.{meet_alike, judged_alike}
use Rattle.models.proofs.Judgments.Accepting.{accepts_exactly, short_accepts_exactly, fills_exactly, short_fills_exactly}
use Rattle.models.proofs.Judgments.Accepting.{preview_accepts_exactly, preview_fills_exactly, refuses_unsatisfiable}
use Rattle.models.proofs.Files.Encoding.{accepts_phones, one_phone, stores_model, answers_accepted}
use Rattle.models.proofs.Files.FileFaults.{refuses_at_the_fault, has_one_fault}
use Rattle.models.proofs.Files.Settled.{settled_by_first_bytes, not_by_fewer}
use Rattle.models.proofs.Phones.PhoneStates.{phones_finite}
use Rattle.models.proofs.Phones.PhoneCodes.{phone_codes}

pub promises : Promises
promises = record {
  tables_enforce = tables_enforce;
  short_tables_enforce = short_tables_enforce;
  monitor_tables_enforce = monitor_tables_enforce;
  short_bisimilar = short_bisimilar;
  decided_satisfies = decided_satisfies;
  judges_exactly = judges_exactly;
  meet_alike = meet_alike;
  judged_alike = judged_alike;
  refused_unchanged = refused_unchanged;
  judges_in_order = judges_in_order;
  accepts_exactly = accepts_exactly;
  short_accepts_exactly = short_accepts_exactly;
  fills_exactly = fills_exactly;
  short_fills_exactly = short_fills_exactly;
  preview_accepts_exactly = preview_accepts_exactly;
  preview_fills_exactly = preview_fills_exactly;
  refuses_unsatisfiable = refuses_unsatisfiable;
  accepts_phones = accepts_phones;
  one_phone = one_phone;
  stores_model = stores_model;
  answers_accepted = answers_accepted;
  refuses_at_the_fault = refuses_at_the_fault;
  has_one_fault = has_one_fault;
  settled_by_first_bytes = settled_by_first_bytes;
  not_by_fewer = not_by_fewer;
  phones_byte_codes = λ y within. phone_codes y within.well_formed;
  phones_finite = phones_finite;
}
