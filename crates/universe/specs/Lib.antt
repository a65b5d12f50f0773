pub mod Views
pub mod Said
pub mod Building
pub mod TokenNumbers
pub mod Order
