mod ReportLemmas
mod TraceLemmas
