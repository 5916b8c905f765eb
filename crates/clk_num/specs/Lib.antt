pub mod Examples
pub mod Numbers
pub mod Operations
pub mod Results
pub mod Rows
pub mod Views
pub mod Width
