use Rattle.bar_arguments.proofs.WorkedLines as worked
use Rattle.bar_arguments.proofs.laws.worked_lines.Goals as goal

pub returns-clause-pairs : goal.returns-clause-pairs
returns-clause-pairs c = worked.pairs-line

pub returns-clause-empty : goal.returns-clause-empty
returns-clause-empty c = worked.empty-line

pub returns-clause-dash : goal.returns-clause-dash
returns-clause-dash c = worked.dash-line

pub returns-clause-dashed : goal.returns-clause-dashed
returns-clause-dashed c = worked.dashed-line

pub returns-clause-dashes : goal.returns-clause-dashes
returns-clause-dashes c = worked.dashes-line

pub returns-clause-equals : goal.returns-clause-equals
returns-clause-equals c = worked.equals-line

pub returns-clause-twice : goal.returns-clause-twice
returns-clause-twice c = worked.twice-line

pub returns-clause-missing : goal.returns-clause-missing
returns-clause-missing c = worked.missing-line

pub returns-clause-stray : goal.returns-clause-stray
returns-clause-stray c = worked.stray-line

pub returns-clause-help : goal.returns-clause-help
returns-clause-help c = worked.help-line

pub returns-clause-short : goal.returns-clause-short
returns-clause-short c = worked.short-line

pub returns-clause-end : goal.returns-clause-end
returns-clause-end c = worked.end-line
