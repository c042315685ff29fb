-- What a judge needs: which fault one or two datagrams show, and of whom.
pub mod Verdict
