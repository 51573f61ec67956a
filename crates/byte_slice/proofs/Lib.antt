pub mod Numbers
pub mod Parts
pub mod PutAt
pub mod Compare
pub mod Words
pub mod Ways
