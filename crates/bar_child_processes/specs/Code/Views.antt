-- The names and reports that values of the code represent.
use Rattle.std.specs.Prelude.{ℕ}
use Rattle.bar_child_processes.specs.Names as plain
use Rattle.bar_child_processes.specs.Family.{ReportData}
use Rattle.bar_child_processes.specs.Outcomes.{code_of}
use Rattle.bar_child_processes.specs.declared.child.Child.{Child}
use Rattle.bar_child_processes.specs.declared.report.Report.{Report}
use Rattle.bar_child_processes.specs.declared.session_names.SessionNames.{SessionNames}

abbrev pub names_view : SessionNames → plain.SessionNames
names_view names =
    record {
      session = names.session.now;
      keys = names.keys.now;
      stream = names.stream.now;
      begin = names.begin.now;
      results = names.results.now;
      program = names.program.now;
    }

abbrev pub report_view : Report → ReportData
report_view report = record { code = code_of report.outcome; prints = report.prints }

abbrev pub key_in : Child → ℕ × ℕ
key_in child = (child.party, child.number)
