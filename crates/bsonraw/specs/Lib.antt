pub mod Form
pub mod Print
pub mod Status
pub mod Run
