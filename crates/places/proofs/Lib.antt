pub mod NearPlace
