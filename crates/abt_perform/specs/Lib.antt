pub mod Names
pub mod RateText
pub mod CellText
pub mod PortText
pub mod Plans
pub mod Words
