-- What the calls from start to the chosen address share.
pub mod Finishing
