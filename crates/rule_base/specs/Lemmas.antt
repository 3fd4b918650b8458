-- Lemmas on the definitions beside this folder, a file for each.
pub mod RecordLemmas
pub mod BridgeLemmas
pub mod EncodingLemmas
pub mod PutLemmas
pub mod HistoryLemmas
pub mod StepsLemmas
pub mod HistoryRuleLemmas
pub mod RegimeLemmas
