-- Demand 3: a table that monitors a rule enforces it on the model of every file that isn't refused, and loses no walk, by what is proved of every monitor
-- and every model; and both fillings leave such a table. The two drop alike, and so a model is bisimilar to itself behind them.
use Prim.Native.Nat.{ℕ}
use Rattle.synthesis.specs.Monitor.{lookup}
use Rattle.synthesis.proofs.Tables.Built.{table_monitors}
use Rattle.synthesis.proofs.Quotients.ShortFillings.{short_monitors, short_drops_alike}
use Rattle.enforcement.specs.Model.{suppressing}
use Rattle.enforcement.proofs.Responses.{suppressing_passes}
use Rattle.enforcement.proofs.Suppressing.{runs_behind}
use Rattle.enforcement.proofs.Enforcing.{monitors_enforce}
use Rattle.enforcement.proofs.MonitoredAlike.{alike_bisimilar}
use Rattle.models.specs.Phone.{model_of}
use Rattle.models.specs.Promises.{TablesEnforce, ShortTablesEnforce, MonitorTablesEnforce, ShortBisimilar}
use Rattle.models.proofs.Phones.PhoneCodes.{phone_codes}
use Rattle.models.proofs.Files.Encoding.{phone_within_limits}

pub monitor_tables_enforce : MonitorTablesEnforce
monitor_tables_enforce mark r table monitors f y bytes read = (
  monitors_enforce ℕ r (lookup 256 mark table) 0 monitors (suppressing (lookup 256 mark table)) (suppressing_passes (lookup 256 mark table)) (model_of y)
      (phone_codes y (phone_within_limits f y bytes read).well_formed),
  runs_behind ℕ (lookup 256 mark table) 0 (model_of y),
)

pub tables_enforce : TablesEnforce
tables_enforce limit mark s table r n left b = monitor_tables_enforce mark r left (table_monitors limit mark s table r n left b)

pub short_tables_enforce : ShortTablesEnforce
short_tables_enforce limit mark s table r n left b = monitor_tables_enforce mark r left (short_monitors limit mark s table r n left b)

pub short_bisimilar : ShortBisimilar
short_bisimilar limit mark s table r n long b table' m short b' =
    alike_bisimilar ℕ ℕ (lookup 256 mark short) 0 (lookup 256 mark long) 0
    (λ w bytes. (short_drops_alike limit mark s table r n long b table' m short b' w bytes).verdicts_alike)
