use Rattle.bar_cli.specs.Refusals.{session_refused, key_refused, recording_refused, stream_refused, proof_refused, secret_refused, table_refused}
use Rattle.bar_cli.proofs.status.report.Goals as goal

pub returns-in-SessionRefused-clause-said : goal.returns-in-SessionRefused-clause-said
returns-in-SessionRefused-clause-said g c =
    rw c.in-SessionRefused.is (c.print_text.ensures.said (session_refused c.in-SessionRefused.fault) c.session_refusal.ensures)

pub returns-in-KeyRefused-clause-said : goal.returns-in-KeyRefused-clause-said
returns-in-KeyRefused-clause-said g c =
    rw c.in-KeyRefused.is (c.print_text-in-KeyRefused.ensures.said (key_refused c.in-KeyRefused.fault) c.key_refusal.ensures)

pub returns-in-RecordingRefused-clause-said : goal.returns-in-RecordingRefused-clause-said
returns-in-RecordingRefused-clause-said g c =
    rw c.in-RecordingRefused.is
    (c.print_text-in-RecordingRefused.ensures.said (recording_refused c.in-RecordingRefused.fault) c.recording_refusal.ensures)

pub returns-in-PartiesRefused-clause-said : goal.returns-in-PartiesRefused-clause-said
returns-in-PartiesRefused-clause-said g c = rw c.in-PartiesRefused.is c.print_line-in-PartiesRefused.ensures.said

pub returns-in-StreamRefused-clause-said : goal.returns-in-StreamRefused-clause-said
returns-in-StreamRefused-clause-said g c =
    rw c.in-StreamRefused.is (c.print_text-in-StreamRefused.ensures.said
    (stream_refused c.in-StreamRefused.have c.in-StreamRefused.room) c.stream_refusal.ensures)

pub returns-in-SecretRefused-clause-said : goal.returns-in-SecretRefused-clause-said
returns-in-SecretRefused-clause-said g c =
    rw c.in-SecretRefused.is (c.print_text-in-SecretRefused.ensures.said (secret_refused c.in-SecretRefused.len) c.secret_refusal.ensures)

pub returns-in-TableRefused-clause-said : goal.returns-in-TableRefused-clause-said
returns-in-TableRefused-clause-said g c =
    rw c.in-TableRefused.is (c.print_text-in-TableRefused.ensures.said (table_refused c.in-TableRefused.at) c.table_refusal.ensures)

pub returns-in-EvidenceRefused-clause-said : goal.returns-in-EvidenceRefused-clause-said
returns-in-EvidenceRefused-clause-said g c = rw c.in-EvidenceRefused.is c.print_line-in-EvidenceRefused.ensures.said

pub returns-in-ProofRefused-clause-said : goal.returns-in-ProofRefused-clause-said
returns-in-ProofRefused-clause-said g c =
    rw c.in-ProofRefused.is (c.print_text-in-ProofRefused.ensures.said (proof_refused c.in-ProofRefused.fault) c.proof_refusal.ensures)
