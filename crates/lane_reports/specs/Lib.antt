pub mod OpenedChain
pub mod PrintedReport
