pub mod CodecLaws
pub mod RecordLaws
pub mod ReaderLaws
pub mod Examples
pub mod InWords
