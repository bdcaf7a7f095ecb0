pub mod ExplainedHistories
pub mod ExplainedRecords
pub mod FormRemarks
pub mod HistoryForms
pub mod MadeTexts
pub mod OrderPlaces
pub mod OrderRemarks
