pub mod DrawHistoryFaults
pub mod Forms
pub mod HistoryPictures
pub mod Marks
pub mod Parts
pub mod RecordPictures
